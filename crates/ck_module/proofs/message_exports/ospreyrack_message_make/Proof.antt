-- `ospreyrack_message_make` makes the value and writes it through the pointer. `V` is the value's
-- row.
use Rattle.std.proofs.Common.{◌≡◌, [], ◌∷◌, refl}
use Rattle.std.proofs.raw_atomic.Walks.{proved}
use base.Fraction.{full_share}
use base.Logic.{sep, id⊢, ex_e, snd∗}
use base.Fml.{ftrue}
use mir.Val.{vunit}
use prog.Wp.{WpFn}
use types.Logic.{sem}
use contract.Monad.{fact}
use contract.Running.{tables}
use types.Kit.{‵, raw, ◌⊛◌, some, later, prop, ◌$◌, ◌∵◌, !, qed, done, move, drop, use1, use2}
use types.Kit.{split, join, feq_i, pick, await, regoal, suffices, frame, group, show}
use types.Run.{enter, of_opd, unit_lit, init, stop, no_more, assigns, returns}
use types.ByLocal.{alloc_all, pass_all, free_all, look_at, get, through, sets, lands_as}
use borrow.Table.OneValue.{part_in}
use denote.Exit.{yes}
use denote.Laws.{Is, shows}
use denote.Memory.{part_at}
use denote.RawPtr.{Ptr, RawPtr, block_ptr, lies_at, room_at, in_a_block}
use denote.RawPtr.{rawptr_vals, rawptr_Tells}
use denote.Signature.{plain}
use denote.Steps.{nothing, peeks, heard}
use denote.Triple.Call.{calls_at}
use denote.Triple.Clauses.{ensured, lasts}
use denote.Triple.Spec.{triple_of}
use denote.Triple.Table.{framed}
use denote.Triple.Walked.{Stays, walk_of, says, stay_dropped, Goes-dropped, ends_at}
use Rattle.ck_foreign.specs.declared.message_calls.MessageCall.{MessageCall}
use Rattle.ck_foreign.specs.declared.message_calls.MessageCall.TheVariants as variant
use Rattle.ck_foreign.specs.contracts.message_calls.MessageCall.{the_row as V}
use Rattle.ck_foreign.proofs.message_calls.MessageCall.TheLaws as v-laws
use Rattle.ck_module.specs.contracts.message_exports.ospreyrack_message_make as f
use Rattle.ck_module.proofs.message_exports.ospreyrack_message_make.Statement.{statement}
use Rattle.ck_module.proofs.message_exports.ospreyrack_message_make.Code as code
use Rattle.ck_foreign.specs.contracts.message_calls.MessageCall.new as g
use Rattle.ck_foreign.proofs.message_calls.MessageCall.new.Met.{met}

abbrev stayed : Stays f.ended.signature.params f.ended.kept
stayed = (stay_dropped _ yes, tt)

pub ospreyrack_message_make_spec : {M : Type 1} → statement M
ospreyrack_message_make_spec 𝓤 𝓛 𝓜 𝓡 wired =
    let c = f.clauses 𝓛 𝓜.mem 𝓡.returns in let W = walk_of 𝓛 f.ended stayed c in
    let 𝓣 = tables 𝓤 𝓛.H 𝓜 𝓡 𝓡.env in
    proved 𝓛 f.ended stayed c 𝓜 𝓡
    (Goes-dropped 𝓛 0 (plain (λ _. RawPtr)) yes (λ κs x w. refl), tt)
    f.Key.name code.function (code.unfolded 𝓤 𝓛.H 𝓜 𝓡 wired)
    (λ κs. (rawptr_vals, tt)) (λ κs. (rawptr_Tells, tt)) (λ κs qs bounds a _ are.
    let y : Ptr → W.Ghost = λ p. ((κs, qs, bounds, (p, tt), (rawptr_vals p, tt)), tt) in
    let G = triple_of 𝓛 g.signature (g.spec 𝓛 𝓜.mem 𝓡.returns) in
    let z : G.Ghost = ((κs, qs, bounds, tt, tt), tt) in
    qed 𝓛 ((‵ ftrue ⊛ ‵ (RawPtr.own_val a.0 (rawptr_vals a.0)) ⊛ ‵ ftrue)
    ∷ ‵ (room_at V a.0) ∷ []) ∵
    drop ! $
    in_a_block ! a.0 (λ p. room_at V p) (id⊢ 𝓤 _) (λ b o e.
    regoal ! (λ p. prop (WpFn 𝓤 𝓛.H 𝓣.C 𝓣.Λ code.function (rawptr_vals p) (W.post (y p))))
    e refl $
    enter ! _ _ _ _ _ $ alloc_all ! (λ l. pass_all ! refl ((tt, tt), tt) $
    -- [the room; the locals]
    nothing ! $ nothing ! $ join ! $ nothing ! $ move ! (1 ∷ 0 ∷ []) $
    use2 𝓛 (raw (G.pre z)) (id⊢ 𝓤 _) $
    calls_at ! (framed 𝓤 𝓛.H 𝓜 (tables 𝓤 𝓛.H 𝓜 𝓡 𝓡.env)) G
    (met 𝓤 𝓛 𝓜 𝓡 (code.calls-ck_foreign::message_calls::MessageCall::new 𝓡.env wired)) z
    (no_more !) (λ v.
    use1 𝓛 (later (some (λ (m : MessageCall). (‵ ftrue ⊛ ‵ (V.own_val m (v ∷ [])))
    ⊛ raw (ensured 𝓛 g.ended (g.clauses 𝓛 𝓜.mem 𝓡.returns) κs tt tt m)))) (id⊢ 𝓤 _) $
    await ! tt $ pick ! (λ m. split ! $ split ! $ drop ! $ move ! (1 ∷ []) $
    use1 𝓛 (raw (fact 𝓤 (m ≡ variant.Empty)))
    (ex_e 𝓤 _ (λ ws. snd∗ 𝓤 (sem 𝓛 (lasts g.ended κs tt ws)) (fact 𝓤 (m ≡ variant.Empty)))) $
    heard ! (m ≡ variant.Empty) (λ new. peeks ! V (Is V) (shows 𝓛 V) m (v ∷ []) (λ is.
    let ok = ((v-laws.the_row_laws.lawful 𝓛).typed m (v ∷ []) is).0 in
    -- [what the value owns; the room; the locals]
    lands_as ! refl refl ok $
    sets ! (of_opd ! (get ! refl)) refl (tt, tt) $
    sets ! (of_opd ! (get ! refl)) refl ok $
    assigns ! (of_opd ! (get ! refl)) (through ! refl (stop !)) (init ! 1 refl ok) $
    sets ! (of_opd ! (unit_lit !)) refl (tt, tt) $
    returns ! (look_at ! 0 refl) $ free_all ! refl $
    move ! (1 ∷ 0 ∷ []) $ use2 𝓛 (‵ (part_at V full_share m b o))
    (part_in 𝓛 V refl full_share m b o v) $
    suffices ! _ (ends_at 𝓛 f.ended stayed c (y (block_ptr b o)) vunit tt (tt, tt) (tt, tt)) $
    feq_i ! _ (vunit ∷ []) _ refl $ nothing ! $ nothing ! $ join ! $ nothing ! $ group ! 3 $
    frame ! $
    show ! (λ (w : MessageCall). sep 𝓤 (sem 𝓛 (lies_at V full_share (block_ptr b o) w))
    (fact 𝓤 (w ≡ variant.Empty))) m $ says ! new $ done !)))))))
