use Rattle.std.proofs.Common.{sym, subst}
use Rattle.ck_store.specs.Index.{IsIntact}
use Rattle.ck_store.proofs.session_lists.list_newest.Goals as goal

pub returns-in_err-list_object-clause-intact : goal.returns-in_err-list_object-clause-intact
returns-in_err-list_object-clause-intact c = λ index creations intact.
    subst
    (λ unlisted. IsIntact c.args.objects.now index c.list_object.new.lists.items unlisted creations)
    (sym c.in-Some.is)
    (c.list_object.ensures.tried index creations
    (subst (λ unlisted. IsIntact c.args.objects.now index c.args.lists.now.items unlisted creations)
    c.in-Some.is intact))

pub returns-in_ok-list_object-clause-intact : goal.returns-in_ok-list_object-clause-intact
returns-in_ok-list_object-clause-intact c = λ index creations intact.
    c.in_ok-list_object.ensures.listed index creations
    (subst (λ unlisted. IsIntact c.args.objects.now index c.args.lists.now.items unlisted creations)
    c.in-Some.is intact)
