-- Writing bytes piece by piece
use Rattle.std.proofs.Common.{◌≡◌, ℕ, ◌+◌, ◌-◌, List, [], ◌++◌, length, take, drop, ap, sym, ◌∙◌}
use Rattle.std.proofs.Common.{subst, append_assoc}
use Rattle.std.proofs.Math.Seq.{take-add}
use Rattle.std.proofs.lemmas.List.{append-nil, take-append-drop, take_rest}
use Rattle.ck_plays.specs.Devices.{Writing, wrote, failed_write}
use Rattle.ck_plays.specs.Players.{WriteFailed}

-- bytes and further bytes
pub wrote-wrote : (w : Writing) (xs ys : List ℕ) → wrote (wrote w xs) ys ≡ wrote w (xs ++ ys)
wrote-wrote w xs ys =
    ap (λ (bytes : List ℕ). (let r : Writing = record {
      is_known = w.is_known;
      bytes = bytes;
      failures = w.failures;
    } in r)) (append_assoc w.bytes xs ys)

-- what was written, where nothing is written yet
pub nothing_written : (P : Writing → Type 0) (w : Writing) → P w → P (wrote w [])
nothing_written P w h = rw append-nil h

-- one more write of some of the bytes that are left
pub wrote-more : (P : Writing → Type 0) (w : Writing) (xs : List ℕ) (at count : ℕ)
    → P (wrote (wrote w (take at xs)) (take count (take (length xs - at) (drop at xs))))
    → P (wrote w (take (at + count) xs))
wrote-more P w xs at count h =
    subst P (wrote-wrote w (take at xs) _
    ∙ ap (wrote w) (ap (λ (ys : List ℕ). take at xs ++ take count ys) (take_rest xs at)
    ∙ sym (take-add at count xs))) h

-- a failed write
pub broken : (P : Writing → Type 0) (w : Writing) (xs : List ℕ) (at : ℕ)
    → P (failed_write (wrote w (take at xs))) → WriteFailed P w xs
broken P w xs at h =
    record {
      part = take at xs;
      rest = drop at xs;
      parts = sym (take-append-drop at xs);
      writer = h;
    }
