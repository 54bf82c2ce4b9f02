-- What the devices of a program that ended well have counted
use Rattle.std.proofs.Common.{◌≡◌, ℕ, Bool, true, false, List, [], Option, None, Ok, sym, subst}
use Rattle.std.proofs.Common.{arith}
use Rattle.ck_plays.specs.Devices.{Reading, Writing, IsCount, IsReadOf, IsWrittenTo, AreCounts}
use Rattle.ck_plays.specs.Plays.{one_if}
use Rattle.ck_plays.specs.declared.counts.ReadCounts.{ReadCounts}
use Rattle.ck_program.specs.Programs.{IsCarriedOut, IsPlay}
use Rattle.ck_program.specs.declared.options.Options.{Options}
use Rattle.ck_program.specs.declared.options.Options.TheVariants as option

-- nothing is read of a script that isn't known
abbrev pub unread : Reading
unread = record {
  script = None;
  bytes = [];
  earlier = [];
  reads = 0;
  ends = 0;
  failures = 0;
}

-- nothing is written, and it isn't known what the sink holds
abbrev pub unwritten : Writing
unwritten = record { is_known = false; bytes = []; failures = 0 }

pub is-unread : (left : Option (List ℕ)) (counts : ReadCounts)
    → counts ≡ record { reads = 0; ends = 0; failures = 0 } → IsReadOf left counts unread
is-unread left counts e = (
  tt,
  subst (λ (c : ReadCounts). AreCounts c unread) (sym e)
      (record { reads = omega arith; ends = omega arith; failures = omega arith }),
)

pub is-unwritten : (held : Option (List ℕ)) (failures : ℕ) → failures ≡ 0
    → IsWrittenTo held failures unwritten
is-unwritten held failures e = (λ known. cc, omega (arith, e))

counted-once : (ended : Bool) (n : ℕ) → ended ≡ true → IsCount n (one_if ended 0) → n ≡ 1
counted-once true n e h = omega (arith, h)
counted-once false n e h = cc

counted-none : (n : ℕ) → IsCount n 0 → n ≡ 0
counted-none n h = omega (arith, h)

pub end-found : (chosen : Options) (left : Option (List ℕ)) (counts : ReadCounts)
    (Q : Writing → Type 0)
    → IsPlay chosen → IsCarriedOut chosen unread unwritten (IsReadOf left counts) Q (Ok tt)
    → (counts.ends ≡ 1) × (counts.failures ≡ 0)
end-found option.LineByLine left counts Q play h = (
  counted-once h.ended counts.ends h.outcome.end_found h.reader.1.ends,
  counted-none counts.failures h.reader.1.failures,
)
end-found (option.InThreads callers) left counts Q play h =
    let whole = h.1.good.whole in (
      counted-once whole.ended counts.ends whole.outcome.0 whole.reader.1.ends,
      counted-none counts.failures whole.reader.1.failures,
    )
end-found (option.Help text) left counts Q play h = absurd play

pub all-written : (chosen : Options) (held : Option (List ℕ)) (failures : ℕ)
    (P : Reading → Type 0)
    → IsCarriedOut chosen unread unwritten P (IsWrittenTo held failures) (Ok tt) → failures ≡ 0
all-written option.LineByLine held failures P h = counted-none failures h.writer.1
all-written (option.InThreads callers) held failures P h = counted-none failures h.2.1
all-written (option.Help text) held failures P h = counted-none failures h.1.1
