use Rattle.std.proofs.Common.{◌≡◌, Some, true, false, nat_lt, length, sym, ap, ◌∙◌, refl, arith}
use Rattle.std.proofs.lemmas.Bool.Decides.{nat_tests}
use Rattle.std.specs.Result.{result_err}
use Rattle.ck_journal.specs.Queries.{is_longer}
use Rattle.ck_objects.specs.Fields.{field_bytes}
use Rattle.ck_token.proofs.QueryLemmas.{unreadable, unreadable-code, readable-code}
use Rattle.ck_token.proofs.queries.query_answer.Goals as goal

pub returns-in-Err-clause-answer : goal.returns-in-Err-clause-answer
returns-in-Err-clause-answer c =
    let hidden = unreadable c.args.attributes.now c.args.query.now.kind c.in-Err.error
    (ap result_err (sym c.in-Err.is) ∙ c.readable.ensures.error) in
    rw hidden refl

pub returns-in-Err-clause-code : goal.returns-in-Err-clause-code
returns-in-Err-clause-code c =
    sym (unreadable-code c.args.attributes.now c.args.query.now c.in-Err.error
    (ap result_err (sym c.in-Err.is) ∙ c.readable.ensures.error))

pub returns-in-None-clause-code : goal.returns-in-None-clause-code
returns-in-None-clause-code c =
    let value = field_bytes c.in-Ok.value in
    let query = c.args.query.now in
    let read = c.in-Ok.ensures.value in
    sym (readable-code c.args.attributes.now query value false read
    (ap (λ v. is_longer v query.room) read ∙ ap (is_longer (Some value)) c.in-None.is))

pub returns-in-Some-clause-code : goal.returns-in-Some-clause-code
returns-in-Some-clause-code c =
    let value = field_bytes c.in-Ok.value in
    let query = c.args.query.now in
    let read = c.in-Ok.ensures.value in
    let short : nat_lt c.in-Some.room (length value) ≡ true = grind (arith, nat_tests) in
    sym (readable-code c.args.attributes.now query value true read
    (ap (λ v. is_longer v query.room) read ∙ ap (is_longer (Some value)) c.in-Some.is ∙ short))

pub returns-in_ok-value-in-Some-2-clause-code : goal.returns-in_ok-value-in-Some-2-clause-code
returns-in_ok-value-in-Some-2-clause-code c =
    let value = field_bytes c.in-Ok.value in
    let query = c.args.query.now in
    let read = c.in-Ok.ensures.value in
    let enough : nat_lt c.in-Some.room (length value) ≡ false = grind (arith, nat_tests) in
    sym (readable-code c.args.attributes.now query value false read
    (ap (λ v. is_longer v query.room) read ∙ ap (is_longer (Some value)) c.in-Some.is ∙ enough))
