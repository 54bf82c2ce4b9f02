-- The first of the words of a text
use Rattle.std.proofs.Common.{◌≡◌, ℕ, ◌+◌, ◌-◌, ◌≤◌, Bool, true, false, List, [], ◌∷◌}
use Rattle.std.proofs.Common.{Some, None, length, take, drop, sym, ap, ◌∙◌, arith}
use Rattle.std.specs.Prelude.{◌==◌, nat_lt, position}
use Rattle.std.specs.List.{slice_split, position_or_len}
use Rattle.std.proofs.lemmas.List.Splits.{slice_split_first, slice_split_none}
use Rattle.std.proofs.lemmas.List.Sums.{fails_before_first}
use Rattle.std.proofs.lemmas.List.{take_rest}
use Rattle.std.proofs.lemmas.Bool.{ltb-true, ltb-false}
use Rattle.std.proofs.lemmas.Option.{cond_some}
use Rattle.ck_journal.proofs.Selections.{cond_none}
use Rattle.ck_script.specs.Splits.{words_left}

module _ (p : ℕ → Bool) (text : List ℕ) where
  pub slice_split-some : (end : ℕ) → position p text ≡ Some end
      → slice_split p text ≡ take end text ∷ slice_split p (drop (end + 1) text)
  slice_split-some end e =
      let found = cond_some (nat_lt (position_or_len p text) (length text)) (position_or_len p text)
      end e in
      slice_split_first p text 0 (ltb-true (position_or_len p text) (length text) found.0)
      ∙ ap (λ n. take n text ∷ slice_split p (drop (n + 1) text)) found.1

  pub slice_split-none : position p text ≡ None → slice_split p text ≡ text ∷ []
  slice_split-none e =
      let fails = cond_none (nat_lt (position_or_len p text) (length text)) (position_or_len p text)
      e in
      let past : length text ≤ position_or_len p text = ltb-false (position_or_len p text)
      (length text) fails in
      slice_split_none p text (λ k d l. fails_before_first p text k d (omega arith))

-- the words that are left before and after the next one is taken off
pub words_left-some : (separator : ℕ) (is_done : Bool) (text : List ℕ) (end : ℕ) → is_done ≡ false
    → Some end ≡ position (λ byte. byte == separator) text
    → words_left separator is_done text
    ≡ take end text ∷ words_left separator is_done
    (take (length text - (end + 1)) (drop (end + 1) text))
words_left-some separator true text end done e = cc
words_left-some separator false text end done e =
    slice_split-some _ text end (sym e)
    ∙ ap (λ rest. take end text ∷ slice_split (λ byte. byte == separator) rest)
    (sym (take_rest text (end + 1)))

pub words_left-none : (separator : ℕ) (is_done : Bool) (text : List ℕ) → is_done ≡ false
    → None ≡ position (λ byte. byte == separator) text
    → words_left separator is_done text ≡ text ∷ []
words_left-none separator true text done e = cc
words_left-none separator false text done e = slice_split-none _ text (sym e)
