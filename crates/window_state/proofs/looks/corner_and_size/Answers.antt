use Rattle.std.proofs.Common.{refl, ◌∙◌}
use Rattle.window_state.specs.Placings.{box_of}
use Rattle.window_state.proofs.LookSteps.{edges_passed, edges_told, moved_passed}
use Rattle.window_state.proofs.looks.corner_and_size.Goals as goal

pub edge_after-r-requires-clause-order : goal.edge_after-r-requires-clause-order
edge_after-r-requires-clause-order c =
    let s = edges_passed c.args.size.l c.args.size.t c.args.size.r c.args.size.b c.requires.size in
    rw (s.right, s.left) (edges_told c.args.size.l c.args.size.t c.args.size.r c.args.size.b c.requires.size).across

pub edge_after-r-requires-clause-near : goal.edge_after-r-requires-clause-near
edge_after-r-requires-clause-near c =
    let s = edges_passed c.args.size.l c.args.size.t c.args.size.r c.args.size.b c.requires.size in
    rw (s.right, s.left) (edges_told c.args.size.l c.args.size.t c.args.size.r c.args.size.b c.requires.size).wide

pub edge_after-b-requires-clause-start : goal.edge_after-b-requires-clause-start
edge_after-b-requires-clause-start c =
    let p = edges_passed c.args.corner.l c.args.corner.t c.args.corner.r c.args.corner.b c.requires.corner in
    rw p.top (edges_told c.args.corner.l c.args.corner.t c.args.corner.r c.args.corner.b c.requires.corner).top

pub edge_after-b-requires-clause-from : goal.edge_after-b-requires-clause-from
edge_after-b-requires-clause-from c =
    let s = edges_passed c.args.size.l c.args.size.t c.args.size.r c.args.size.b c.requires.size in
    rw s.top (edges_told c.args.size.l c.args.size.t c.args.size.r c.args.size.b c.requires.size).top

pub edge_after-b-requires-clause-order : goal.edge_after-b-requires-clause-order
edge_after-b-requires-clause-order c =
    let s = edges_passed c.args.size.l c.args.size.t c.args.size.r c.args.size.b c.requires.size in
    rw (s.bottom, s.top) (edges_told c.args.size.l c.args.size.t c.args.size.r c.args.size.b c.requires.size).down

pub edge_after-b-requires-clause-near : goal.edge_after-b-requires-clause-near
edge_after-b-requires-clause-near c =
    let s = edges_passed c.args.size.l c.args.size.t c.args.size.r c.args.size.b c.requires.size in
    rw (s.bottom, s.top) (edges_told c.args.size.l c.args.size.t c.args.size.r c.args.size.b c.requires.size).high

pub place_of-requires : goal.place_of-requires
place_of-requires c =
    let s = edges_passed c.args.size.l c.args.size.t c.args.size.r c.args.size.b c.requires.size in
    let p = edges_passed c.args.corner.l c.args.corner.t c.args.corner.r c.args.corner.b c.requires.corner in
    (moved_passed (box_of c.args.corner) (box_of c.args.size) c.edge_after-r.result c.edge_after-b.result c.requires.corner c.requires.size
    (c.edge_after-r.ensures ∙ rw (p.left, s.right, s.left) refl) (c.edge_after-b.ensures ∙ rw (p.top, s.bottom, s.top) refl)).0

pub returns : goal.returns
returns c =
    let s = edges_passed c.args.size.l c.args.size.t c.args.size.r c.args.size.b c.requires.size in
    let p = edges_passed c.args.corner.l c.args.corner.t c.args.corner.r c.args.corner.b c.requires.corner in
    c.place_of.ensures ∙ (moved_passed (box_of c.args.corner) (box_of c.args.size) c.edge_after-r.result c.edge_after-b.result c.requires.corner c.requires.size
    (c.edge_after-r.ensures ∙ rw (p.left, s.right, s.left) refl) (c.edge_after-b.ensures ∙ rw (p.top, s.bottom, s.top) refl)).1
