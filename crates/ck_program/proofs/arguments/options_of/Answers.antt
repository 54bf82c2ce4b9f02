use Rattle.std.proofs.Common.{ap, subst, inl, inr, codes, ◌≡◌, ◌∙◌, []}
use Rattle.std.specs.Prelude.{Err, Option, Result, map, string_bytes}
use Rattle.clap.specs.Words.{App, Text, fault_of, first_of, found_of, is_simple}
use Rattle.clap.specs.Words.{is_simple_and_free, kind_of, matches_of, IsAmong}
use Rattle.clap.proofs.WalkLemmas.{first_value-rows}
use Rattle.ck_program.specs.Options.{AreRefused, IsChosenBy}
use Rattle.ck_program.specs.declared.faults.ArgumentFault.{ArgumentFault}
use Rattle.ck_program.specs.declared.options.Options.{Options}
use Rattle.ck_program.proofs.arguments.options_of.Goals as goal

pub returns-in-Ok : goal.returns-in-Ok
returns-in-Ok c =
    let arguments = map string_bytes c.args.arguments.now in
    let same = c.in_ok-command.ensures in
    let taken = subst (λ (a : App). fault_of a arguments ≡ []) same
    (c.in-Ok.ensures.kinds (ap is_simple_and_free same)) in
    let rows = (c.in-Ok.ensures.matches (ap is_simple same)).0
    ∙ ap (λ (a : App). matches_of a arguments) same in
    let text = first_value-rows (found_of c.in-Ok.matches) (codes "callers")
    ∙ ap (first_of (codes "callers")) rows in
    inl (
      taken,
      subst (λ (t : Option Text). IsChosenBy t c.options_in.result) text
          c.options_in.ensures,
    )

pub returns : goal.returns
returns c =
    let arguments = map string_bytes c.args.arguments.now in
    let same = c.in_ok-command.ensures in
    let kinds = c.in-Err.ensures.kinds (ap is_simple_and_free same) in
    elim kinds [
      | inl memory ↦ absurd (c.in_default.not-OutOfMemory (c.kind.ensures ∙ memory))
      | inr among ↦
          let refused : AreRefused arguments = (
            kind_of c.in-Err.error,
            subst (λ (a : App). IsAmong (kind_of c.in-Err.error) (fault_of a arguments)) same among,
            λ is. c.in_default.not-DisplayHelp (c.kind.ensures ∙ is),
          ) in
          elim c.refusal.ensures [
            | inl refusal ↦ inr (inr (inl (refused, refusal)))
            | inr memory ↦ inr (inr (inr (
                ap (λ (f : ArgumentFault). (let r : Result Options ArgumentFault = Err f in r))
                memory
                )))
          ]
    ]
