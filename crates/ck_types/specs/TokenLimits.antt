-- The token's limits
use Rattle.std.specs.Prelude.{ℕ, ◌≤◌, ◌<◌, ◌^◌}

-- sessions that are open at once; openings of sessions, creations of objects and logins of the user
-- (answered CKR_OK) in all
pub record Ranges : Type 0 where
  pub sessions : ℕ
  pub openings : ℕ
  pub creations : ℕ
  pub logins : ℕ

-- 1 to 64 sessions at once; at least one opening, one creation and one login, and fewer than 2^32
-- openings, 2^32 creations and 2^31 logins
abbrev pub AreInRange : ℕ → ℕ → ℕ → ℕ → Type 0
AreInRange sessions openings creations logins =
    (1 ≤ sessions) × (sessions ≤ 64) × (1 ≤ openings) × (openings < 2 ^ 32)
    × (1 ≤ creations) × (creations < 2 ^ 32) × (1 ≤ logins) × (logins < 2 ^ 31)
