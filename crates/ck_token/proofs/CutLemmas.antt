-- Where no session is open, a token's parts are what the base says that its history leaves
use Rattle.std.proofs.Common.{◌≡◌, ℕ, cond, List, [], Option, Some, None}
use Rattle.std.proofs.Common.{length, refl, sym, ap, ◌∙◌, subst}
use Rattle.std.specs.Prelude.{◌==◌, find, map, option_map}
use Rattle.ck_types.specs.TokenLimits.{Ranges}
use Rattle.ck_objects.specs.declared.items.Item.{Item}
use Rattle.ck_journal.specs.Cuts.{base_of}
use Rattle.ck_journal.specs.Histories.{History, start}
use Rattle.ck_journal.specs.Laws.{IsSoundHistory}
use Rattle.ck_journal.specs.Objects.{creations, object_at, session_of}
use Rattle.ck_journal.specs.Operations.{is_active}
use Rattle.ck_journal.specs.Sessions.{openings, is_open, open_sessions}
use Rattle.ck_journal.proofs.CutBases.{closed, token-object, kept-object, base-sound}
use Rattle.ck_journal.proofs.KeyUseLemmas.{is_active-open}
use Rattle.ck_journal.proofs.LoginMoves.{login-none}
use Rattle.ck_journal.proofs.Selections.{selected-none, filter_map-same}
use Rattle.ck_operations.specs.Agreement.{OperationsState, OperationsAgree, OptionAgrees}
use Rattle.ck_operations.specs.Agreement.{active_operation}
use Rattle.ck_operations.specs.Rows.{is_operation}
use Rattle.ck_sessions.specs.Agreement.{SessionsState, SessionsAgree, session_row}
use Rattle.ck_store.specs.Agreement.{StoreState, StoreAgrees, row_at}
use Rattle.ck_store.specs.Rows.{object_row}
use Rattle.ck_token.specs.Agreement.{TokenAgrees}
use Rattle.ck_parts.specs.declared.parts.Parts.{Parts}

pub good-history : (limits : Ranges) (h : History) (p : Parts) → TokenAgrees limits h p
    → IsSoundHistory limits h
good-history limits h p agree =
    record { in_range = agree.ranges; sound = agree.parts.objects.sound; legal = agree.legal }

module _ (limits : Ranges) (h : History) (good : IsSoundHistory limits h)
    (none : open_sessions h ≡ []) where
  sessions-cut : (s : SessionsState) → SessionsAgree h s → SessionsAgree (start (base_of h)) s
  sessions-cut s agree = record {
    rows = agree.rows ∙ ap (map (session_row h)) none
        ∙ sym (selected-none (is_open (start (base_of h))) (session_row (start (base_of h)))
        (openings h)
        (λ k below. refl));
    openings = agree.openings;
    login = agree.login ∙ login-none h (ap (λ ss. length ss == 0) none);
    logins = agree.logins;
    so = record { pin = agree.so.pin; tries = agree.so.tries };
    user = record { pin = agree.user.pin; tries = agree.user.tries };
    initialized = agree.initialized;
  }

  -- the row of a token object has no session
  row-cut : (n : ℕ) (object : Option (List Item)) → object_at h n ≡ object
      → option_map (object_row n (session_of h n)) object ≡ option_map (object_row n 0) object
  row-cut n None is = refl
  row-cut n (Some attributes) is = rw (token-object limits h good none n attributes is) refl

  store-cut : (s : StoreState) → StoreAgrees h s → StoreAgrees (start (base_of h)) s
  store-cut s agree = record {
    sound = base-sound limits h good none;
    rows = agree.rows
        ∙ filter_map-same (row_at h) (row_at (start (base_of h))) (creations h)
        (λ k below. row-cut k (object_at h k) refl
        ∙ ap (option_map (object_row k 0)) (sym (kept-object h k good.sound)));
    creations = agree.creations;
  }

  operations-cut : (o : OperationsState) → OperationsAgree h o
      → OperationsAgree (start (base_of h)) o
  operations-cut o agree = record {
    each = λ k s.
        subst (λ t. OptionAgrees (find (is_operation k s) o.rows)
        (cond t (Some (active_operation k h s)) None))
        (sym (closed limits h good none (is_active k h) (is_active-open limits k h good.legal) s))
        (agree.each k s);
  }

  pub token-cut : (p : Parts) → TokenAgrees limits h p → TokenAgrees limits (start (base_of h)) p
  token-cut p agree = record {
    ranges = agree.ranges;
    legal = tt;
    parts = record {
      sessions = sessions-cut p.sessions agree.parts.sessions;
      objects = store-cut p.objects agree.parts.objects;
      operations = operations-cut p.operations agree.parts.operations;
    };
  }
