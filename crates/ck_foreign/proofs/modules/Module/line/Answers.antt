use Rattle.std.proofs.Common.{rules, ◌≡◌, ℕ, Option, Some, None, refl}
use Rattle.ck_journal.specs.declared.calls.Call.{Call}
use Rattle.ck_script.specs.Lines.{meaning, ParsingTakesMemory}
use Rattle.ck_script.specs.declared.lines.Line.{Line}
use Rattle.ck_script.specs.declared.lines.Line.TheVariants as line
use Rattle.ck_foreign.specs.Calls.{IsSame}
use Rattle.ck_foreign.proofs.modules.Module.line.Goals as goal

-- a line that takes memory to be read means a call
called : (m : Option Line) → ParsingTakesMemory m
    → (caller : ℕ) × (c : Call) × (m ≡ Some (line.Called caller c))
called None takes = absurd takes
called (Some line.Skipped) takes = absurd takes
called (Some (line.Called caller c)) takes = (caller, c, refl)

pub returns-in-Err-Memory : goal.returns-in-Err-Memory
returns-in-Err-Memory c =
    let means = called (meaning c.args.line.now) (c.parse.ensures.memory (search rules)) in
    let same : IsSame c.args.self.now c.args.self.now = search rules in
    (means.0, means.1, means.2, same)
