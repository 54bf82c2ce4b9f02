use Rattle.std.proofs.Common.{refl, sym, ◌∙◌}
use Rattle.ck_journal.specs.Histories.{start}
use Rattle.ck_journal.specs.Sessions.{is_open}
use Rattle.ck_journal.proofs.Selections.{selected-none}
use Rattle.ck_sessions.specs.Agreement.{session_row}
use Rattle.ck_sessions.proofs.session_table.Sessions.from_base.Goals as goal

-- no session is open at the start
pub returns : goal.returns
returns c =
    let b = c.args.base.now in
    record {
      rows = c.new.ensures.items
          ∙ sym (selected-none (is_open (start b)) (session_row (start b)) b.openings
          (λ k below. refl));
      openings = refl;
      login = refl;
      logins = refl;
      so = record { pin = refl; tries = refl };
      user = record { pin = refl; tries = refl };
      initialized = c.requires.so_pin;
    }
