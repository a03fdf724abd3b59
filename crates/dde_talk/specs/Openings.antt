-- The two statements that open a conversation.
use Rattle.std.specs.Prelude.{ℕ}
use Rattle.win_num.specs.declared.message.Hwnd.{Hwnd}
use Rattle.user_model.specs.declared.call.Call.{Call}
use Rattle.user_model.specs.declared.call.Call.TheVariants.{Send}
use Rattle.script_tree.specs.declared.operand.Operand.TheVariants.{Number}
use Rattle.script_tree.specs.declared.statement.CallStatement.TheVariants.{Send as SendCall}
use Rattle.script_tree.specs.declared.statement.Statement.{Statement}
use Rattle.script_tree.specs.declared.statement.Statement.TheVariants.{Call as CallOf}
use Rattle.dde_talk.specs.declared.names.TheConstants.{WM_DDE_ACK, WM_DDE_INITIATE}

-- the statement `send W M P 0`, with these numbers
abbrev pub sends : ℕ → ℕ → ℕ → Statement
sends w number wparam = CallOf (SendCall (Number w) (Number number) (Number wparam) (Number 0))

-- `send server WM_DDE_INITIATE client 0`, and its call
abbrev pub initiates : Hwnd → Hwnd → Statement
initiates client server = sends server.0 WM_DDE_INITIATE client.0

abbrev pub initiate : Hwnd → Hwnd → Call
initiate client server = Send server.0 WM_DDE_INITIATE client.0 0

-- `send client WM_DDE_ACK server 0`, and its call
abbrev pub acknowledges : Hwnd → Hwnd → Statement
acknowledges server client = sends client.0 WM_DDE_ACK server.0

abbrev pub acknowledge : Hwnd → Hwnd → Call
acknowledge server client = Send client.0 WM_DDE_ACK server.0 0
