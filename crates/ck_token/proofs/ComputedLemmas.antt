-- What an active operation computes, and its tags
use Rattle.std.proofs.Common.{◌≡◌, ℕ, false, List, [], ◌++◌, Option, Some, None, Result, length}
use Rattle.std.proofs.Common.{refl, sym, ap, ◌∙◌, subst}
use Rattle.std.specs.Prelude.{IfSome}
use Rattle.std.specs.Option.{option_map_or}
use Rattle.ck_types.specs.Checks.{check_of, or_else}
use Rattle.ck_types.specs.declared.errors.RvError.{RvError}
use Rattle.ck_mac.specs.Computations.{Computation, tag_of}
use Rattle.ck_mac.specs.RunningTags.{HoldsTag, tag_size}
use Rattle.ck_mac.specs.Macs.{signature_error}
use Rattle.ck_mac.specs.declared.running_tags.RunningTag.{RunningTag}
use Rattle.ck_mac.proofs.LengthLemmas.{length-tag_of}
use Rattle.ck_journal.specs.declared.operations.OperationKind.{OperationKind}
use Rattle.ck_journal.specs.Answers.{tag_in}
use Rattle.ck_journal.specs.Histories.{History}
use Rattle.ck_journal.specs.Operations.{computation_in, message_in, is_updated}
use Rattle.ck_journal.specs.Works.{HoldsTagOf, HoldsWith}
use Rattle.ck_journal.proofs.WorkLemmas.{computed}
use Rattle.ck_parts.proofs.OperationMoves.{unused-message}
use Rattle.ck_operations.specs.Agreement.{OperationAgrees, active_operation}
use Rattle.ck_operations.specs.Rows.{HoldsMessage}
use Rattle.ck_operations.specs.declared.active_operations.Operation.{Operation}

-- an active operation
module _ (k : OperationKind) (h : History) (s : ℕ) (o : Operation)
    (agrees : OperationAgrees o (active_operation k h s)) where
  -- what it computes is what the history's operation of the kind does
  is : (c : Computation) × (computation_in k h s ≡ Some c) × HoldsMessage c o (message_in k h s)
  is = computed (computation_in k h s) _ (message_in k h s) agrees.message

  same_tag : (message : List ℕ) → tag_of is.0 message ≡ tag_in k h s message
  same_tag message = ap (λ found. option_map_or (λ c. tag_of c message) found []) (sym is.1)

  -- its length is that of its tags
  pub tag-length : (len : ℕ) (message : List ℕ)
      → ((c : Computation) (m : List ℕ) → HoldsMessage c o m → len ≡ tag_size c)
      → length (tag_in k h s message) ≡ len
  tag-length len message size =
      ap length (sym (same_tag message))
      ∙ length-tag_of is.0 _ (message_in k h s) is.2 message
      ∙ sym (size is.0 (message_in k h s) is.2)

  -- its tag is that of the message that it has taken in
  pub message-tag : (tag : List ℕ)
      → ((c : Computation) (m : List ℕ) → HoldsMessage c o m → tag ≡ tag_of c m)
      → tag ≡ tag_in k h s (message_in k h s)
  message-tag tag made = made is.0 (message_in k h s) is.2 ∙ same_tag (message_in k h s)

  -- its tag with a single part is that of these bytes
  pub single_part-tag : (ready : Option RunningTag) (bytes tag : List ℕ)
      → is_updated k h s ≡ false → IfSome ready (HoldsWith k h s bytes)
      → ((c : Computation) (m : List ℕ)
      → IfSome ready (λ running. HoldsTag c running (m ++ bytes))
      → HoldsMessage c o m → tag ≡ tag_of c (m ++ bytes))
      → tag ≡ tag_in k h s bytes
  single_part-tag ready bytes tag unused holds made =
      let message = message_in k h s in
      made is.0 message
      (subst (λ found. IfSome ready (λ running. HoldsTagOf found running (message ++ bytes))) is.1
      holds) is.2
      ∙ same_tag (message ++ bytes)
      ∙ ap (λ m. tag_in k h s (m ++ bytes)) (unused-message k h s unused)

or_else-last : (found : Option RvError) → or_else found None ≡ found
or_else-last None = refl
or_else-last (Some error) = refl

-- the tag is checked last, after a check that passes
pub tag-checked : (error : Option RvError) (made tag signature : List ℕ)
    (result : Result (Unit {0}) RvError)
    → result ≡ check_of (signature_error made signature) → made ≡ tag → error ≡ None
    → result ≡ check_of (or_else error (or_else (signature_error tag signature) None))
tag-checked error made tag signature result is same passes =
    is ∙ rw (same, passes, or_else-last (signature_error tag signature)) refl
