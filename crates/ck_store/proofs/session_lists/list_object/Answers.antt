use Rattle.std.proofs.Common.{◌∙◌, sym, ap}
use Rattle.std.proofs.lemmas.Option.{same_Some}
use Rattle.std.proofs.lemmas.Result.{on_ok_weaker}
use Rattle.ck_store.specs.Rows.{ObjectRow}
use Rattle.ck_store.proofs.IntactLemmas.{IsIntact-tried, IsIntact-listed, IsIntact-unowned}
use Rattle.ck_store.proofs.session_lists.list_object.Goals as goal

pub returns-in_default-clause-listed : goal.returns-in_default-clause-listed
returns-in_default-clause-listed c = λ index creations intact.
    IsIntact-unowned c.args.objects.now index c.args.lists.now.items creations c.args.place
    (λ row is. absurd (cc (c.in_default.ensures))) intact

pub returns-in-None-clause-listed : goal.returns-in-None-clause-listed
returns-in-None-clause-listed c = λ index creations intact.
    IsIntact-unowned c.args.objects.now index c.args.lists.now.items creations c.args.place
    (λ row is.
    ap (λ (r : ObjectRow). r.session)
    (same_Some row c.in-Some.object.now (sym is ∙ sym c.in-Some.ensures))
    ∙ sym c.in-None.ensures) intact

pub returns-in-Some-session-clause-tried : goal.returns-in-Some-session-clause-tried
returns-in-Some-session-clause-tried c = λ index creations intact.
    IsIntact-tried c.args.objects.now index c.args.lists.now.items c.add_to_list.new.lists.items
    creations c.args.place c.in-Some.object.now c.in-Some.ensures c.in-Some-session.session
    c.in-Some-session.ensures c.is_private.result c.is_private.ensures intact
    c.add_to_list.ensures.kept c.add_to_list.ensures.only

pub returns-in-Some-session-clause-listed : goal.returns-in-Some-session-clause-listed
returns-in-Some-session-clause-listed c =
    on_ok_weaker c.add_to_list.result
    (λ added index creations intact.
    IsIntact-listed c.args.objects.now index c.args.lists.now.items c.add_to_list.new.lists.items
    creations c.args.place c.in-Some.object.now c.in-Some.ensures c.in-Some-session.session
    c.in-Some-session.ensures c.is_private.result c.is_private.ensures intact
    c.add_to_list.ensures.kept c.add_to_list.ensures.only added) c.add_to_list.ensures.added
