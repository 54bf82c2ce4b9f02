use Rattle.std.proofs.lemmas.Grind.{common_steps}
use Rattle.std.proofs.Common.{◌+◌, ◌<◌, ◌≡◌, suc, [], ◌∷◌, ◌++◌, None, take, map, length, get_or}
use Rattle.std.proofs.Common.{sym, ap, ◌∙◌, arith}
use Rattle.std.proofs.Math.Seq.{take-suc}
use Rattle.std.proofs.lemmas.List.{map-append}
use Rattle.ck_journal.specs.Queries.{query_answer, queries_code}
use Rattle.ck_journal.specs.declared.calls.AttributeQuery.{AttributeQuery}
use Rattle.ck_token.specs.QueryCodes.{higher}
use Rattle.ck_token.proofs.QueryLemmas.{code-next}
use Rattle.ck_token.proofs.queries.queries_decision.Goals as goal

pub loop-query-preserved : goal.loop-query-preserved
loop-query-preserved c =
    let items = c.args.attributes.now in
    let queries = c.args.queries.now in
    let index = c.loop-query.query-index in
    let other : AttributeQuery = record { kind = 0; room = None } in
    let within : index < length queries = omega arith in
    let next : index + 1 ≡ suc index = omega arith in (
      c.push_reserved.ensures.items
          ∙ ap (λ answers. answers ++ (c.in_ok-answer.answer ∷ [])) c.loop-query.invariant.0
          ∙ ap (λ answer. map (query_answer items) (take index queries) ++ (answer ∷ []))
          c.in_ok-answer.ensures.answer
          ∙ sym (map-append (query_answer items) (take index queries)
          (get_or queries index other ∷ []))
          ∙ sym (ap (map (query_answer items)) (take-suc queries index other within))
          ∙ sym (ap (λ k. map (query_answer items) (take k queries)) next),
      c.higher-rv.ensures
          ∙ ap (λ rv. higher rv c.in_ok-answer.code) c.loop-query.invariant.1
          ∙ ap (higher (queries_code items (take index queries))) c.in_ok-answer.ensures.code
          ∙ sym (code-next items index queries other within),
      omega (arith, c.push_reserved.ensures.len, c.loop-query.invariant.2),
      omega (arith, c.push_reserved.ensures.capacity, c.loop-query.invariant.3),
    )

pub push_reserved-requires : goal.push_reserved-requires
push_reserved-requires c = omega (arith, c.loop-query.invariant.2, c.loop-query.invariant.3)

pub loop-query-init : goal.loop-query-init
loop-query-init c = grind (arith, common_steps)

pub returns : goal.returns
returns c = grind (arith, common_steps)
