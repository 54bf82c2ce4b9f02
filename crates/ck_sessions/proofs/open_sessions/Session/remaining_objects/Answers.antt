use Rattle.std.proofs.Common.{◌∙◌, ap}
use Rattle.ck_sessions.specs.Rows.{SessionRow}
use Rattle.ck_sessions.proofs.Readings.{search_left-some}
use Rattle.ck_sessions.proofs.open_sessions.Session.remaining_objects.Goals as goal

pub returns : goal.returns
returns c = λ h s row.
    search_left-some h s c.in_ok-as_ref.field-0.now c.remaining.result.now
    (c.in_ok-as_ref.ensures.value ∙ ap (λ (r : SessionRow). r.search) (c.self.view_is ∙ row))
    c.remaining.ensures
