-- How much a sink in memory takes
use Rattle.std.specs.Prelude.{◌==◌, ℕ, min, Option, Some, None, if◌then◌else◌}

-- how many of the given bytes the write of this number takes, at most `most` and none where it is
-- the one that stops
abbrev pub count_taken : ℕ → ℕ → Option ℕ → ℕ → ℕ
count_taken bytes most None write = min bytes most
count_taken bytes most (Some stops_at) write = if write == stops_at then 0 else min bytes most
