-- `ospreyrack_make` makes the value and writes it through the pointer. `V` is the value's row, `A`
-- the allocator's.
use Rattle.std.proofs.Common.{List, [], ◌∷◌, ◌++◌, refl}
use Rattle.std.proofs.raw_atomic.Walks.{proved}
use base.Fraction.{full_share}
use base.Logic.{sep, id⊢, ex_e, snd∗}
use base.Fml.{ftrue}
use mir.Val.{Val, vunit}
use prog.Wp.{WpFn}
use types.Logic.{sem}
use contract.Monad.{fact}
use contract.Running.{tables}
use types.Kit.{‵, raw, ◌⊛◌, some, later, prop, ◌$◌, ◌∵◌, !, qed, done, move, drop, use1, use2}
use types.Kit.{split, join, feq_i, pick, await, regoal, suffices, frame, group, show}
use types.Run.{enter, of_opd, unit_lit, init, stop, no_more, and_then, assigns, returns}
use types.ByLocal.{alloc_all, pass_all, free_all, look_at, get, through, sets, lands_as}
use borrow.Table.OneValue.{part_in}
use denote.Exit.{yes}
use denote.Laws.{Is, shows}
use denote.Memory.{part_at}
use denote.RawPtr.{Ptr, RawPtr, block_ptr, lies_at, room_at, in_a_block, rawptr_vals, rawptr_Tells}
use denote.Signature.{plain}
use denote.Steps.{nothing, peeks, heard}
use denote.Triple.Call.{calls_at}
use denote.Triple.Clauses.{ensured, lasts}
use denote.Triple.Spec.{triple_of}
use denote.Triple.Table.{framed}
use denote.Triple.Walked.{Stays, walk_of, says, stay_dropped, Goes-dropped, ends_at}
use Rattle.std.specs.contracts.alloc.Global.{the_row as A}
use Rattle.std.proofs.alloc.Global.TheLaws as a-laws
use Rattle.ck_foreign.specs.Lives.{IsNew}
use Rattle.ck_foreign.specs.declared.modules.Module.{Module}
use Rattle.ck_foreign.specs.contracts.modules.Module.{the_row as V}
use Rattle.ck_foreign.proofs.modules.Module.TheLaws as v-laws
use Rattle.ck_module.specs.contracts.lives.ospreyrack_make as f
use Rattle.ck_module.proofs.lives.ospreyrack_make.Statement.{statement}
use Rattle.ck_module.proofs.lives.ospreyrack_make.Code as code
use Rattle.ck_foreign.specs.contracts.modules.Module.new as g
use Rattle.ck_foreign.proofs.modules.Module.new.Met.{met}

abbrev stayed : Stays f.ended.signature.params f.ended.kept
stayed = (stay_dropped _ yes, (stay_dropped _ yes, tt))

pub ospreyrack_make_spec : {M : Type 1} → statement M
ospreyrack_make_spec 𝓤 𝓛 𝓜 𝓡 wired =
    let c = f.clauses 𝓛 𝓜.mem 𝓡.returns in let W = walk_of 𝓛 f.ended stayed c in
    let 𝓣 = tables 𝓤 𝓛.H 𝓜 𝓡 𝓡.env in
    proved 𝓛 f.ended stayed c 𝓜 𝓡 (
      Goes-dropped 𝓛 0 (plain (λ _. A)) yes (λ κs x w. refl),
      (Goes-dropped 𝓛 0 (plain (λ _. RawPtr)) yes (λ κs x w. refl), tt),
    )
    f.Key.name code.function (code.unfolded 𝓤 𝓛.H 𝓜 𝓡 wired)
    (λ κs. ((λ x. a-laws.the_told.val x ∷ []), (rawptr_vals, tt)))
    (λ κs. (a-laws.the_told.tells, (rawptr_Tells, tt))) (λ κs qs bounds a _ are.
    let alloc = a.0 in let avs : List Val = a-laws.the_told.val alloc ∷ [] in
    let y : Ptr → W.Ghost =
    λ p. ((κs, qs, bounds, (alloc, (p, tt)), (avs, (rawptr_vals p, tt))), tt) in
    let G = triple_of 𝓛 g.signature (g.spec 𝓛 𝓜.mem 𝓡.returns) in
    let z : G.Ghost = ((κs, qs, bounds, (alloc, tt), (avs, tt)), tt) in
    qed 𝓛 ((‵ ftrue ⊛ ‵ (A.own_val alloc avs)
    ⊛ ‵ (RawPtr.own_val a.1.0 (rawptr_vals a.1.0)) ⊛ ‵ ftrue)
    ∷ ‵ (room_at V a.1.0) ∷ []) ∵
    split ! $ drop ! $ split ! $ move ! (1 ∷ []) $ drop ! $ move ! (1 ∷ []) $
    in_a_block ! a.1.0 (λ p. room_at V p) (id⊢ 𝓤 _) (λ b o e.
    regoal ! (λ p.
    prop (WpFn 𝓤 𝓛.H 𝓣.C 𝓣.Λ code.function (avs ++ rawptr_vals p) (W.post (y p)))) e refl $
    enter ! _ _ _ _ _ $ alloc_all ! (λ l.
    pass_all ! refl
    (((a-laws.the_row_laws.lawful 𝓛).typed alloc avs are.0).0, ((tt, tt), tt)) $
    -- [the room; what the allocator owns; the locals]
    move ! (1 ∷ []) $ nothing ! $ move ! (1 ∷ 0 ∷ []) $ join ! $ nothing ! $ join ! $ nothing ! $
    move ! (1 ∷ 0 ∷ []) $
    use2 𝓛 (raw (G.pre z)) (id⊢ 𝓤 _) $
    calls_at ! (framed 𝓤 𝓛.H 𝓜 (tables 𝓤 𝓛.H 𝓜 𝓡 𝓡.env)) G
    (met 𝓤 𝓛 𝓜 𝓡 (code.calls-ck_foreign::modules::Module::new 𝓡.env wired)) z
    (and_then ! (get ! refl) (no_more !)) (λ v.
    use1 𝓛 (later (some (λ (m : Module). (‵ ftrue ⊛ ‵ (V.own_val m (v ∷ [])))
    ⊛ raw (ensured 𝓛 g.ended (g.clauses 𝓛 𝓜.mem 𝓡.returns) κs (alloc, tt) tt m))))
    (id⊢ 𝓤 _) $
    await ! tt $ pick ! (λ m. split ! $ split ! $ drop ! $ move ! (1 ∷ []) $
    use1 𝓛 (raw (fact 𝓤 (IsNew m)))
    (ex_e 𝓤 _ (λ ws. snd∗ 𝓤 (sem 𝓛 (lasts g.ended κs (alloc, tt) ws)) (fact 𝓤 (IsNew m)))) $
    heard ! (IsNew m) (λ new. peeks ! V (Is V) (shows 𝓛 V) m (v ∷ []) (λ is.
    let ok = ((v-laws.the_row_laws.lawful 𝓛).typed m (v ∷ []) is).0 in
    -- [what the value owns; the room; the locals]
    lands_as ! refl refl ok $
    sets ! (of_opd ! (get ! refl)) refl (tt, tt) $
    sets ! (of_opd ! (get ! refl)) refl ok $
    assigns ! (of_opd ! (get ! refl)) (through ! refl (stop !)) (init ! 1 refl ok) $
    sets ! (of_opd ! (unit_lit !)) refl (tt, tt) $
    returns ! (look_at ! 0 refl) $ free_all ! refl $
    move ! (1 ∷ 0 ∷ []) $ use2 𝓛 (‵ (part_at V full_share m b o))
    (part_in 𝓛 V refl full_share m b o v) $
    suffices ! _ (ends_at 𝓛 f.ended stayed c (y (block_ptr b o)) vunit tt
    (tt, (tt, tt)) (tt, (tt, tt))) $
    feq_i ! _ (vunit ∷ []) _ refl $
    nothing ! $ nothing ! $ join ! $ nothing ! $ join ! $ nothing ! $ group ! 3 $ frame ! $
    show ! (λ (w : Module).
    sep 𝓤 (sem 𝓛 (lies_at V full_share (block_ptr b o) w)) (fact 𝓤 (IsNew w))) m $
    says ! new $ done !)))))))
