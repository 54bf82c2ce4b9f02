-- How a token in C's memory begins, and what a cut of its journal does
use Rattle.std.specs.Prelude.{◌≡◌, ℕ, ◌-◌, ◌^◌, [], Result, Ok, Err}
use Rattle.ck_types.specs.declared.return_codes.Rv.TheVariants as rv
use Rattle.ck_journal.specs.Bases.{empty_base}
use Rattle.ck_journal.specs.Cuts.{base_of, IsLeftBy}
use Rattle.ck_journal.specs.Histories.{JournalState, start}
use Rattle.ck_journal.specs.declared.replies.Body.TheVariants as body
use Rattle.ck_token.specs.Cuts.{IsCut}
use Rattle.ck_token.specs.declared.cuts.Uncut.{Uncut}
use Rattle.ck_token.specs.declared.cuts.Uncut.TheVariants as uncut
use Rattle.ck_foreign.specs.declared.modules.Module.{Module}

-- no call has been answered yet, and each limit is the largest
pub record IsNew (m : Module) : Type 0 where
  pub limits : m.token.limits
      ≡ record { sessions = 64; openings = 2 ^ 32 - 1; creations = 2 ^ 32 - 1; logins = 2 ^ 31 - 1 }
  pub history : m.token.history ≡ start empty_base
  pub reply : m.reply ≡ record { rv = rv.Ok; body = body.Empty }
  pub text : m.text.items ≡ []

-- the reply and the text stay, and the token's journal is cut or not, as `Token::cut` says; where
-- it is, later calls are answered as they would have been
abbrev pub IsModuleCut : Result (Unit {0}) Uncut → Module → Module → Type 0
IsModuleCut (Ok done) old new =
    ((journal : JournalState) × IsCut old.token new.token (Ok journal))
    × IsLeftBy old.token.limits old.token.history (base_of old.token.history)
    × (new.reply ≡ old.reply) × (new.text ≡ old.text)
IsModuleCut (Err refused) old new = IsCut old.token new.token (Err refused) × (new ≡ old)

-- the number that C is told of a cut
abbrev pub cut_number : Result (Unit {0}) Uncut → ℕ
cut_number (Ok done) = 0
cut_number (Err uncut.Session) = 1
cut_number (Err uncut.Memory) = 2
