use Rattle.std.proofs.Common.{refl, sym, subst}
use Rattle.screen_state.specs.Parts.{IsLiveAt}
use Rattle.screen_state.proofs.Drawing.{begin_at, begun, end_at, finished, in_table, invalid_at, invalidated, passed_edges, plain_at, valid_at, validated}
use Rattle.screen_state.proofs.screen.ScreenState.draw.Goals as goal

pub window_or_none-w-requires : goal.window_or_none-w-requires
window_or_none-w-requires c = let x = c.in-Invalidate-Okay in in_table c.args.tree.now x.w (invalid_at c.args.tree.now c.args.entry x.w x.l x.t x.r x.b x.erase c.requires x.is-0 x.is-1).0

pub invalidate-requires-clause-live : goal.invalidate-requires-clause-live
invalidate-requires-clause-live c = let x = c.in-Invalidate-Okay in subst (IsLiveAt c.args.tree.now) (sym c.window_or_none-w.ensures) (invalid_at c.args.tree.now c.args.entry x.w x.l x.t x.r x.b x.erase c.requires x.is-0 x.is-1).0

pub invalidate-requires-clause-place : goal.invalidate-requires-clause-place
invalidate-requires-clause-place c = let x = c.in-Invalidate-Okay in passed_edges x.l x.t x.r x.b (invalid_at c.args.tree.now c.args.entry x.w x.l x.t x.r x.b x.erase c.requires x.is-0 x.is-1).1

pub window_or_none-w-requires-in-Validate-Okay : goal.window_or_none-w-requires-in-Validate-Okay
window_or_none-w-requires-in-Validate-Okay c = let x = c.in-Validate-Okay in in_table c.args.tree.now x.w (valid_at c.args.tree.now c.args.entry x.w x.l x.t x.r x.b c.requires x.is-0 x.is-1).0

pub validate-requires-clause-live : goal.validate-requires-clause-live
validate-requires-clause-live c = let x = c.in-Validate-Okay in subst (IsLiveAt c.args.tree.now) (sym c.window_or_none-w-in-Validate-Okay.ensures) (valid_at c.args.tree.now c.args.entry x.w x.l x.t x.r x.b c.requires x.is-0 x.is-1).0

pub validate-requires-clause-place : goal.validate-requires-clause-place
validate-requires-clause-place c = let x = c.in-Validate-Okay in passed_edges x.l x.t x.r x.b (valid_at c.args.tree.now c.args.entry x.w x.l x.t x.r x.b c.requires x.is-0 x.is-1).1

pub window_or_none-requires : goal.window_or_none-requires
window_or_none-requires c = let x = c.in-BeginPaint-Painting in in_table c.args.tree.now x.w (begin_at c.args.tree.now c.args.entry x.w _ c.requires x.is-0 x.is-1 refl)

pub window_or_none-requires-in-EndPaint-Okay : goal.window_or_none-requires-in-EndPaint-Okay
window_or_none-requires-in-EndPaint-Okay c = let x = c.in-EndPaint-Okay in in_table c.args.tree.now x.w (end_at c.args.tree.now c.args.entry x.w c.requires x.is-0 x.is-1)

pub returns-in-Invalidate-Okay-clause-drawn : goal.returns-in-Invalidate-Okay-clause-drawn
returns-in-Invalidate-Okay-clause-drawn c = let x = c.in-Invalidate-Okay in invalidated c.invalidate.result c.args.tree.now c.args.entry x.w c.window_or_none-w.result.0 x.l x.t x.r x.b x.erase _ c.args.self.now c.invalidate.new.self c.requires x.is-0 x.is-1 c.window_or_none-w.ensures refl c.invalidate.ensures.ok

pub returns-in-Validate-Okay-clause-drawn : goal.returns-in-Validate-Okay-clause-drawn
returns-in-Validate-Okay-clause-drawn c = let x = c.in-Validate-Okay in validated c.validate.result c.args.tree.now c.args.entry x.w c.window_or_none-w-in-Validate-Okay.result.0 x.l x.t x.r x.b c.args.self.now c.validate.new.self c.requires x.is-0 x.is-1 c.window_or_none-w-in-Validate-Okay.ensures c.validate.ensures.ok

pub returns-in-BeginPaint-Painting-clause-drawn : goal.returns-in-BeginPaint-Painting-clause-drawn
returns-in-BeginPaint-Painting-clause-drawn c = let x = c.in-BeginPaint-Painting in begun c.begin.result c.args.tree.now c.args.entry x.w c.window_or_none.result.0 _ _ _ _ _ c.args.self.now c.begin.new.self x.is-0 x.is-1 c.window_or_none.ensures c.begin.ensures.ok

pub returns-in-EndPaint-Okay-clause-drawn : goal.returns-in-EndPaint-Okay-clause-drawn
returns-in-EndPaint-Okay-clause-drawn c can = let x = c.in-EndPaint-Okay in finished c.args.tree.now c.args.entry x.w c.window_or_none-in-EndPaint-Okay.result.0 c.args.self.now c.end.new.self x.is-0 x.is-1 c.window_or_none-in-EndPaint-Okay.ensures c.end.ensures

pub returns-in-Fill-Okay-clause-drawn : goal.returns-in-Fill-Okay-clause-drawn
returns-in-Fill-Okay-clause-drawn c can = let x = c.in-Fill-Okay in plain_at c.args.tree.now c.args.entry c.args.self.now _ _ x.is-0 x.is-1 refl refl refl

pub returns-in-Erase-Okay-clause-drawn : goal.returns-in-Erase-Okay-clause-drawn
returns-in-Erase-Okay-clause-drawn c can = let x = c.in-Erase-Okay in plain_at c.args.tree.now c.args.entry c.args.self.now _ _ x.is-0 x.is-1 refl refl refl

pub returns-in-Snap-Snap-clause-drawn : goal.returns-in-Snap-Snap-clause-drawn
returns-in-Snap-Snap-clause-drawn c can = let x = c.in-Snap-Snap in plain_at c.args.tree.now c.args.entry c.args.self.now _ _ x.is-0 x.is-1 refl refl refl
