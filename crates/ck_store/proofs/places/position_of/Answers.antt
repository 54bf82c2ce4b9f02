use Rattle.std.proofs.Common.{◌∙◌, rules}
use Rattle.std.proofs.lemmas.List.Sorted.{answers_always}
use Rattle.ck_store.specs.declared.places.Place.{Place}
use Rattle.ck_store.specs.Index.{place}
use Rattle.ck_store.proofs.Searched.{place-searched, place-guessed}
use Rattle.ck_store.proofs.places.position_of.Goals as goal

pub returns-in-Some-clause-position : goal.returns-in-Some-clause-position
returns-in-Some-clause-position c = λ rise.
    place-guessed (λ (p : Place). p.number) c.args.index.now rise c.args.number c.in-Some.position
    (place 0 0) c.in-Some.ensures.found.0 c.in-Some.ensures.found.1

pub returns-clause-position : goal.returns-clause-position
returns-clause-position c = λ rise.
    let searched =
    c.binary_search_by_key.ensures.position (λ (p : Place). p.number)
    (answers_always _ _ _ (λ f a r g called. search rules)) in
    c.ok.ensures.value
    ∙ place-searched (λ (p : Place). p.number) c.args.index.now rise c.args.number
    c.binary_search_by_key.result c.binary_search_by_key.ensures.bound searched
