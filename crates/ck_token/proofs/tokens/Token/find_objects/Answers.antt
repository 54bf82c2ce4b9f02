use Rattle.std.proofs.Common.{◌≡◌, List, ℕ, not, sym, ap, ◌∙◌}
use Rattle.std.specs.Prelude.{map, take, filter}
use Rattle.std.specs.Option.{option_copied}
use Rattle.std.proofs.lemmas.Option.{cond_some}
use Rattle.ck_types.specs.Checks.{error_if}
use Rattle.ck_types.specs.declared.errors.RvError.TheVariants as rv_error
use Rattle.ck_journal.specs.Answers.{ok}
use Rattle.ck_journal.specs.Objects.{handle_of, is_visible}
use Rattle.ck_journal.specs.Searches.{is_searching, remaining_objects, last_number, last_or}
use Rattle.ck_journal.specs.Searches.{number_of_handle}
use Rattle.ck_journal.specs.declared.replies.Body.TheVariants as body
use Rattle.ck_parts.specs.declared.changes.Change.TheVariants as change
use Rattle.ck_token.proofs.DecisionLemmas.{session-passes, skip}
use Rattle.ck_token.proofs.SearchLemmas.{last_or-some, last_or-none}
use Rattle.ck_token.proofs.tokens.Token.find_objects.Goals.{in-Some, in-None}
use Rattle.ck_token.proofs.tokens.Token.find_objects.Goals as goal

pub returns : goal.returns
returns c =
    let h = c.args.self.now.history in
    let s = c.args.session in
    let rest = cond_some (is_searching h s) (remaining_objects h s) c.in_ok-numbers.numbers.now
    (sym (c.remaining_objects.ensures h s c.in_ok-row.ensures.row)
    ∙ ap option_copied c.in_ok-numbers.ensures.ok_part) in
    let items = c.in_ok-handles.handles.items in
    let given = c.in_ok-handles.ensures.handles
    ∙ ap (λ (numbers : List ℕ). map (handle_of h) (take c.args.max (filter (is_visible h) numbers)))
    (sym rest.1) in
    let number : c.match-last.number ≡ last_or (last_number h s) (map number_of_handle items) =
    elim c.match-last.branch [
      | in-Some w ↦
          w.number-is ∙ w.number_of_handle-number.ensures
          ∙ sym (last_or-some items w.in-Some.handle.now (last_number h s)
          (rw c.deref.ensures.value at w.in-Some.ensures.value))
      | in-None w ↦
          w.number-is ∙ w.last_found-number.ensures.last h s c.in_ok-row.ensures.row rest.0
          ∙ sym (last_or-none items (last_number h s)
          (rw c.deref.ensures.value at w.in-None.ensures.value))
    ] in (
      skip _ _ (session-passes h s c.in_ok-row.ensures.open)
          ∙ skip _ _ (ap (λ t. error_if (not t) rv_error.OperationNotInitialized) rest.0),
      ap (λ (handles : List ℕ). ok (body.Handles handles)) (c.from_vec.ensures ∙ given),
      ap (change.AdvanceSearch s) (number
          ∙ ap (λ (handles : List ℕ). last_or (last_number h s) (map number_of_handle handles))
          (sym c.from_vec.ensures)),
    )
