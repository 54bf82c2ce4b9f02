-- What was read of a source and written to a sink
use Rattle.std.specs.Prelude.{◌≡◌, ℕ, zero, suc, Bool, true, ◌&&◌, ◌==◌, ◌++◌, min, not, List, []}
use Rattle.std.specs.Prelude.{Option, Some, None, Result, Ok, Err, length, take, if◌then◌else◌}
use Rattle.ck_plays.specs.declared.counts.ReadCounts.{ReadCounts}

-- the script, where it is known, the bytes that were read, those that were read before the last
-- read, and how many reads were made, found the end, and failed
pub record Reading : Type 0 where
  pub script : Option (List ℕ)
  pub bytes : List ℕ
  pub earlier : List ℕ
  pub reads : ℕ
  pub ends : ℕ
  pub failures : ℕ

-- whether the sink says what it holds, the bytes that were written, and how many writes failed or
-- took no byte
pub record Writing : Type 0 where
  pub is_known : Bool
  pub bytes : List ℕ
  pub failures : ℕ

-- a count that stops at the largest number of 64 bits
abbrev pub IsCount : ℕ → ℕ → Type 0
IsCount count n = count ≡ min n 18446744073709551615

-- a read of no bytes finds the end, where there was room for some
abbrev pub is_end : ℕ → List ℕ → Bool
is_end count buffer = count == 0 && not (length buffer == 0)

-- the same and one more read, which found the end
abbrev pub end_read : Reading → Reading
end_read r = record {
  script = r.script;
  bytes = r.bytes;
  earlier = r.bytes;
  reads = suc r.reads;
  ends = suc r.ends;
  failures = r.failures;
}

-- the same and one more read, which failed
abbrev pub failed_read : Reading → Reading
failed_read r = record {
  script = r.script;
  bytes = r.bytes;
  earlier = r.bytes;
  reads = suc r.reads;
  ends = r.ends;
  failures = suc r.failures;
}

-- the same and one more read, which gave these bytes
abbrev pub read_on : Reading → List ℕ → Reading
read_on r bytes = record {
  script = r.script;
  bytes = r.bytes ++ bytes;
  earlier = r.bytes;
  reads = suc r.reads;
  ends = r.ends;
  failures = r.failures;
}

-- the same and one more read, which put this many bytes into the beginning of the buffer
abbrev pub after_read : {E : Type 0} → Reading → Result ℕ E → List ℕ → Reading
after_read r (Ok count) buffer =
    if is_end count buffer then end_read r else read_on r (take count buffer)
after_read r (Err error) buffer = failed_read r

-- the same and one more write, which failed or took no byte
abbrev pub failed_write : Writing → Writing
failed_write w = record {
  is_known = w.is_known;
  bytes = w.bytes;
  failures = suc w.failures;
}

-- the same and these bytes more
abbrev pub wrote : Writing → List ℕ → Writing
wrote w bytes = record {
  is_known = w.is_known;
  bytes = w.bytes ++ bytes;
  failures = w.failures;
}

-- the same and one more write, which took this many of the first bytes
abbrev pub after_write : {E : Type 0} → Writing → Result ℕ E → List ℕ → Writing
after_write w (Ok count) bytes = if count == 0 then failed_write w else wrote w (take count bytes)
after_write w (Err error) bytes = failed_write w

-- ---- what a device has to do with it

-- nothing is left once the end was found
abbrev pub IsLeft : ℕ → List ℕ → Type 0
IsLeft zero rest = Unit {0}
IsLeft (suc ends) rest = rest ≡ []

-- after these bytes, this rest of the script is left; nothing is said where the script isn't known
abbrev pub IsRest : Option (List ℕ) → List ℕ → ℕ → Option (List ℕ) → Type 0
IsRest None bytes ends left = Unit {0}
IsRest (Some script) bytes ends None = ⊥
IsRest (Some script) bytes ends (Some rest) = (script ≡ bytes ++ rest) × IsLeft ends rest

-- the counts of the reads that were made, found the end, and failed
pub record AreCounts (c : ReadCounts) (r : Reading) : Type 0 where
  pub reads : IsCount c.reads r.reads
  pub ends : IsCount c.ends r.ends
  pub failures : IsCount c.failures r.failures

-- this was read of a source that has these bytes left, where that is known, and has counted its
-- reads
abbrev pub IsReadOf : Option (List ℕ) → ReadCounts → Reading → Type 0
IsReadOf left counts r = IsRest r.script r.bytes r.ends left × AreCounts counts r

-- this was written to a sink that holds these bytes, where that is known, and has counted the
-- writes that failed
abbrev pub IsWrittenTo : Option (List ℕ) → ℕ → Writing → Type 0
IsWrittenTo held failures w =
    (w.is_known ≡ true → held ≡ Some w.bytes) × IsCount failures w.failures
