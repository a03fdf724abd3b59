-- The text of a history.
use Rattle.std.specs.Prelude.{ℕ, List}
use Rattle.user_model.specs.Past.{Past}
use Rattle.script_tree.specs.Tree.{Tree}
use Rattle.log_text.specs.Logs.{log}
use Rattle.log_json.specs.Logs.{json}
use Rattle.user_app.specs.declared.request.LogForm.{LogForm}
use Rattle.user_app.specs.declared.request.LogForm.TheVariants.{Plain, Json}

-- the log of a run of the script with this past, in lines of words or in lines of JSON
abbrev pub history_text : LogForm → Tree → Past → List ℕ
history_text Plain s past = log s past
history_text Json s past = json s past
