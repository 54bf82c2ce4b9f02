-- A journal may be cut where no session is open
use Rattle.std.proofs.Common.{◌≡◌, List, [], ◌∷◌, sym, ◌∙◌}
use Rattle.ck_types.specs.TokenLimits.{Ranges}
use Rattle.ck_journal.specs.declared.calls.Entry.{Entry}
use Rattle.ck_journal.specs.Answers.{IsLegal}
use Rattle.ck_journal.specs.Bases.{IsSound}
use Rattle.ck_journal.specs.Cuts.{base_of, IsSeenAs, IsLeftBy, CutLaw}
use Rattle.ck_journal.specs.Histories.{History, start, start_of, followed_by}
use Rattle.ck_journal.specs.Laws.{IsSoundHistory}
use Rattle.ck_journal.specs.Sessions.{open_sessions}
use Rattle.ck_journal.proofs.CutBases.{base-alike, base-alike_active, base-sound}
use Rattle.ck_journal.proofs.CutMoves.{alike-after, alike_active-after}
use Rattle.ck_journal.proofs.CutReadings.{Alike, AlikeActive, view-alike, answer-alike}

pub sound-later : (h : History) → IsSound (start_of h) → (later : List Entry)
    → IsSound (start_of (followed_by h later))
sound-later h sound [] = sound
sound-later h sound (e ∷ later) = sound-later h sound later

module _ (limits : Ranges) (h : History) (good : IsSoundHistory limits h)
    (none : open_sessions h ≡ []) where
  abbrev cut : List Entry → History
  cut later = followed_by (start (base_of h)) later

  alike-later : (later : List Entry) → IsLegal limits (followed_by h later)
      → Alike (followed_by h later) (cut later) × AlikeActive (followed_by h later) (cut later)
  alike-later [] l = (base-alike limits h good none, base-alike_active limits h good none)
  alike-later (e ∷ later) l =
      let before = alike-later later l.1 in
      let sound = sound-later h good.sound later in (
        alike-after (followed_by h later) (cut later) before.0 limits e sound l,
        alike_active-after (followed_by h later) (cut later) before.0 limits e sound l before.1,
      )

  seen-later : (later : List Entry) → IsLegal limits (followed_by h later)
      → IsSeenAs limits (followed_by h later) (cut later)
  seen-later later l =
      let alike = alike-later later l in
      record {
        objects = alike.0.objects;
        view = view-alike (followed_by h later) (cut later) alike.0;
        answers = answer-alike (followed_by h later) (cut later) alike.0 alike.1 limits;
      }

  legal-after : (later : List Entry) → IsLegal limits (cut later)
      → IsLegal limits (followed_by h later)
  legal-after [] l = good.legal
  legal-after (e ∷ later) l =
      let before = legal-after later l.1 in (l.0 ∙ (seen-later later before).answers e.call, before)

  legal-from : (later : List Entry) → IsLegal limits (followed_by h later)
      → IsLegal limits (cut later)
  legal-from [] l = tt
  legal-from (e ∷ later) l =
      (l.0 ∙ sym ((seen-later later l.1).answers e.call), legal-from later l.1)

  -- the base that is left takes the place of the history
  pub left-by : IsLeftBy limits h (base_of h)
  left-by later = ((legal-after later, legal-from later), seen-later later)

pub cut_law : CutLaw
cut_law limits h good none = (base-sound limits h good none, left-by limits h good none)
