-- A caller after one more reply, and the books
use Rattle.std.proofs.Common.{◌≡◌, ℕ, ◌+◌, ◌-◌, ◌<◌, ◌≤◌, ◌^◌, List, ◌∷◌, length, slice_index}
use Rattle.std.proofs.Common.{slice_set}
use Rattle.std.proofs.Common.{refl, sym, ap, ◌∙◌, arith}
use Rattle.ck_types.specs.TokenLimits.{Ranges}
use Rattle.ck_journal.specs.Answers.{IsLegal}
use Rattle.ck_journal.specs.Callers.{entries_by, call_count, call_counts}
use Rattle.ck_journal.specs.Fronts.{IsFront}
use Rattle.ck_journal.specs.Histories.{History, entry_count}
use Rattle.ck_journal.specs.declared.calls.Call.{Call}
use Rattle.ck_journal.specs.declared.replies.Reply.{Reply}
use Rattle.ck_journal.proofs.CallerLemmas.{entries_by-own, entries_by-front, call_count-within}
use Rattle.ck_journal.proofs.CallerLemmas.{call_counts-at, call_counts-next}
use Rattle.ck_journal.proofs.FrontLemmas.{front_trans}
use Rattle.ck_callers.specs.Callers.{CallerState, HasCalled, IsNextCall, entry_by}

module _ (c : CallerState) (counts : List ℕ) (call : Call) (reply : Reply) (h : History)
    (next : IsNextCall c counts call reply h) (range : (1 ≤ c.number) × (c.number ≤ 8)) where
  known_count : slice_index counts (c.number - 1) ≡ call_count c.number next.before
  known_count =
      ap (λ xs. slice_index xs (c.number - 1)) next.counted
      ∙ call_counts-at c.number next.before range.0 range.1

  pub count_fits : entry_count h < 2 ^ 64 → slice_index counts (c.number - 1) + 1 < 2 ^ 64
  count_fits room =
      omega (
        arith,
        known_count,
        call_count-within c.number next.before,
        ap entry_count next.next,
        room,
      )

  -- the caller's entries are those from before and this one
  own_next : entries_by c.number h ≡ entry_by c.number call reply ∷ entries_by c.number next.before
  own_next = ap (entries_by c.number) next.next ∙ entries_by-own (entry_by c.number call reply)
      next.before

  module _ (audited : c.count ≡ slice_index counts (c.number - 1)) where
    pub count_next : call_count c.number h ≡ c.count + 1
    count_next = let more = ap length own_next in omega (arith, more, audited, known_count)

    pub books_next : slice_set counts (c.number - 1) (c.count + 1) ≡ call_counts h
    books_next =
        ap (λ n. slice_set counts (c.number - 1) (n + 1)) (audited ∙ known_count)
        ∙ ap (λ xs. slice_set xs (c.number - 1) (call_count c.number next.before + 1)) next.counted
        ∙ sym (call_counts-next c.number (entry_by c.number call reply) next.before refl
        range.0 range.1)
        ∙ ap call_counts (sym next.next)

    pub called : (limits : Ranges) → IsFront c.last c.seen → call_count c.number c.last ≡ c.count
        → IsLegal limits h
        → HasCalled limits c call reply (record {
          number = c.number;
          count = c.count + 1;
          last = h;
          seen = h;
        })
    called limits known made legal = record {
      number = refl;
      count = refl;
      legal = legal;
      last = refl;
      before = next.before;
      front = next.front;
      next = next.next;
      own = own_next ∙ ap (λ es. entry_by c.number call reply ∷ es)
          (entries_by-front c.number c.last next.before
          (front_trans c.last c.seen next.before known next.front)
          (sym known_count ∙ sym audited ∙ sym made));
    }
