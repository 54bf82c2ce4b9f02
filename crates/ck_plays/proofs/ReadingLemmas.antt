-- What was read, after one more read, and scripts that are read whole
use Rattle.std.proofs.Common.{◌≡◌, ◌<◌, ◌+◌, ℕ, suc, Bool, true, false, List, [], ◌++◌, Ok, Err}
use Rattle.std.proofs.Common.{append_assoc, refl, sym, ap₂, subst, arith}
use Rattle.std.proofs.lemmas.List.{append-nil}
use Rattle.std.specs.Prelude.{◌==◌, if◌then◌else◌}
use Rattle.ck_plays.specs.Devices.{Reading, end_read, failed_read, read_on}
use Rattle.ck_plays.specs.Plays.{after_reads}
use Rattle.ck_plays.specs.Readings.{IsReadWhole, IsUnread, HasReadSoFar}
use Rattle.ck_plays.specs.declared.faults.PlayFault.{PlayFault}
use Rattle.ck_plays.specs.declared.faults.PlayFault.TheVariants as fault

-- a reading of the same script
abbrev reading_of : Reading → List ℕ → List ℕ → ℕ → ℕ → ℕ → Reading
reading_of r bytes earlier reads ends failures =
    record r { bytes = bytes; earlier = earlier; reads = reads; ends = ends; failures = failures }

-- the same reading with the same bytes and as many reads
same_reading : (A : Reading → Type 0) (r : Reading) (earlier xs ys : List ℕ)
    (m n ends failures : ℕ)
    → xs ≡ ys → m ≡ n → A (reading_of r xs earlier m ends failures)
    → A (reading_of r ys earlier n ends failures)
same_reading A r earlier xs ys m n ends failures e f h =
    subst A (ap₂ (λ (bytes : List ℕ) (reads : ℕ). reading_of r bytes earlier reads ends failures)
    e f) h

-- what was read, where nothing is read yet
pub nothing_read : (A : Reading → Type 0) (read : Reading) → A read
    → A (after_reads read [] [] 0 read.ends read.failures)
nothing_read A read h =
    same_reading A read read.earlier read.bytes (read.bytes ++ []) read.reads (read.reads + 0)
    read.ends read.failures (sym (append-nil read.bytes)) (omega arith) h

-- what was read, after one more read
one_more_read : (A : Reading → Type 0) (read : Reading) (script next bytes : List ℕ)
    (reads ends failures : ℕ)
    → bytes ≡ read.bytes ++ next
    → A (reading_of read bytes (read.bytes ++ script) (suc (read.reads + reads)) ends failures)
    → A (after_reads read next script (suc reads) ends failures)
one_more_read A read script next bytes reads ends failures e h =
    same_reading A read (read.bytes ++ script) bytes (read.bytes ++ next)
    (suc (read.reads + reads)) (read.reads + suc reads) ends failures e (omega arith) h

-- what was read, after the read that found the end
pub at_end : (read : Reading) (script earlier : List ℕ) (reads count : ℕ) (bytes : List ℕ)
    (A B : Reading → Type 0)
    → count ≡ 0 → A (after_reads read script earlier reads read.ends read.failures)
    → ((r : Reading) → A r → B (if count == 0 then end_read r else read_on r bytes))
    → B (after_reads read script script (suc reads) (suc read.ends) read.failures)
at_end read script earlier reads count bytes A B none h more =
    one_more_read B read script script _ reads (suc read.ends) read.failures refl
    (let r : Reading = after_reads read script earlier reads read.ends read.failures in
    subst (λ (n : ℕ). B (if n == 0 then end_read r else read_on r bytes)) none (more r h))

-- what was read, after a failed read
pub after_failed : (read : Reading) (script earlier : List ℕ) (reads : ℕ) (A B : Reading → Type 0)
    → A (after_reads read script earlier reads read.ends read.failures)
    → ((r : Reading) → A r → B (failed_read r))
    → B (after_reads read script script (suc reads) read.ends (suc read.failures))
after_failed read script earlier reads A B h more =
    one_more_read B read script script _ reads read.ends (suc read.failures) refl (more _ h)

-- what was read, after a read of further bytes
pub further : (read : Reading) (script earlier : List ℕ) (reads count : ℕ) (bytes : List ℕ)
    (A B : Reading → Type 0)
    → (count == 0) ≡ false → A (after_reads read script earlier reads read.ends read.failures)
    → ((r : Reading) → A r → B (if count == 0 then end_read r else read_on r bytes))
    → B (after_reads read (script ++ bytes) script (suc reads) read.ends read.failures)
further read script earlier reads count bytes A B some h more =
    one_more_read B read script (script ++ bytes) _ reads read.ends read.failures
    (append_assoc read.bytes script bytes)
    (let r : Reading = after_reads read script earlier reads read.ends read.failures in
    subst (λ (b : Bool). B (if b then end_read r else read_on r bytes)) some (more r h))

-- ---- reading a script whole

pub read-nothing : (read : Reading) (A : Reading → Type 0) (bytes : List ℕ) → bytes ≡ []
    → A read → HasReadSoFar read A bytes 0
read-nothing read A bytes none h = record {
  earlier = [];
  reader = rw none (nothing_read A read h);
}

-- there was no memory for the first read
pub read-unmade : (most : ℕ) (read : Reading) (A : Reading → Type 0) → A read
    → IsUnread most read A fault.Memory
read-unmade most read A h = (
  [],
  record {
    script = [];
    earlier = [];
    ended = false;
    reads = 0;
    reader = nothing_read A read h;
    within = omega arith;
    outcome = refl;
  },
)

pub read-more : (read : Reading) (A B : Reading → Type 0) (bytes next : List ℕ)
    (reads after count : ℕ) (piece : List ℕ)
    → (count == 0) ≡ false → HasReadSoFar read A bytes reads
    → ((r : Reading) → A r → B (if count == 0 then end_read r else read_on r piece))
    → next ≡ bytes ++ piece → after ≡ suc reads → HasReadSoFar read B next after
read-more read A B bytes next reads after count piece some h more e f =
    subst (HasReadSoFar read B next) (sym f) (record {
      earlier = bytes;
      reader = subst (λ (xs : List ℕ).
          B (after_reads read xs bytes (suc reads) read.ends read.failures)) (sym e)
          (further read bytes h.earlier reads count piece A B some h.reader more);
    })

pub read-failed : (most : ℕ) (read : Reading) (A B : Reading → Type 0) (bytes : List ℕ)
    (reads : ℕ) (f : PlayFault)
    → f ≡ fault.Read → reads < most → HasReadSoFar read A bytes reads
    → ((r : Reading) → A r → B (failed_read r)) → IsReadWhole most read B bytes (Err f)
read-failed most read A B bytes reads f e lt h more =
    subst (λ (g : PlayFault). IsReadWhole most read B bytes (Err g)) (sym e) (record {
      script = bytes;
      earlier = bytes;
      ended = false;
      reads = suc reads;
      reader = after_failed read bytes h.earlier reads A B h.reader more;
      within = omega arith;
      outcome = refl;
    })

pub read-unkept : (most : ℕ) (read : Reading) (A B : Reading → Type 0) (bytes kept : List ℕ)
    (reads count : ℕ) (piece : List ℕ)
    → (count == 0) ≡ false → reads < most → HasReadSoFar read A bytes reads
    → ((r : Reading) → A r → B (if count == 0 then end_read r else read_on r piece))
    → IsReadWhole most read B kept (Err fault.Memory)
read-unkept most read A B bytes kept reads count piece some lt h more = record {
  script = bytes ++ piece;
  earlier = bytes;
  ended = false;
  reads = suc reads;
  reader = further read bytes h.earlier reads count piece A B some h.reader more;
  within = omega arith;
  outcome = refl;
}

pub read-ended : (most : ℕ) (read : Reading) (A B : Reading → Type 0) (bytes : List ℕ)
    (reads count : ℕ) (piece : List ℕ)
    → count ≡ 0 → reads < most → HasReadSoFar read A bytes reads
    → ((r : Reading) → A r → B (if count == 0 then end_read r else read_on r piece))
    → IsReadWhole most read B bytes (Ok tt)
read-ended most read A B bytes reads count piece none lt h more = record {
  script = bytes;
  earlier = bytes;
  ended = true;
  reads = suc reads;
  reader = at_end read bytes h.earlier reads count piece A B none h.reader more;
  within = omega arith;
  outcome = (refl, refl);
}

pub read-out : (most : ℕ) (read : Reading) (A : Reading → Type 0) (bytes : List ℕ) (reads : ℕ)
    → reads ≡ most → HasReadSoFar read A bytes reads
    → IsReadWhole most read A bytes (Err fault.Turns)
read-out most read A bytes reads e h = record {
  script = bytes;
  earlier = h.earlier;
  ended = false;
  reads = reads;
  reader = h.reader;
  within = e;
  outcome = refl;
}
