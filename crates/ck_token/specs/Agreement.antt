-- When a token is what its history says
use Rattle.ck_types.specs.TokenLimits.{Ranges, AreInRange}
use Rattle.ck_journal.specs.Answers.{IsLegal}
use Rattle.ck_journal.specs.Histories.{History}
use Rattle.ck_parts.specs.Agreement.{PartsAgree}
use Rattle.ck_parts.specs.declared.parts.Parts.{Parts}

-- the limits are in range, the history is legal, and the token's parts are what it says
pub record TokenAgrees (limits : Ranges) (h : History) (p : Parts) : Type 0 where
  pub ranges : AreInRange limits.sessions limits.openings limits.creations limits.logins
  pub legal : IsLegal limits h
  pub parts : PartsAgree h p
