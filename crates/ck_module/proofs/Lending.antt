-- What is proved of every place: `as_mut` lends the value that lies at its pointer, and the place
-- follows it (`lends`). And a place may go to another thread where its value may (`sends`).
use Rattle.std.proofs.Common.{◌≡◌, ℕ, List, [], ◌∷◌, refl, sym, ap, ◌∙◌, MutBor}
use Rattle.std.proofs.raw_atomic.Walks.{proved}
use seplogic.Ra.Ura.{Ura}
use base.Fraction.{full_share}
use base.Logic.{ent, sep, emp, id⊢}
use base.Fml.{Lft, GName, Share, Fml, ftrue, flft, fsep}
use base.Shift.{Keyless}
use base.Stored.{Coded}
use mir.Syntax.{Callee, Fn, Sym, named, erased, mut, ty_ptr, ty_ref}
use mir.Syntax.{local, value_local, place, deref, field, copy, rv_opd, addr_of, seq, assign, block}
use mir.Syntax.{return}
use mir.Val.{Val, vptr, vstruct, vcons, vnil}
use prog.Model.{Model}
use prog.Wp.{Closed}
use types.Logic.{Logic, sem}
use contract.Monad.{fact}
use contract.Running.{Running, tables}
use types.Kit.{‵, raw, ◌⊛◌, some, later, at_ret, ◌$◌, ◌∵◌, !, qed, by, done, move, keep, use1}
use types.Kit.{split, join, fsplit, fsplit3, fjoin, fpack, pick, await, rewrite, suffices}
use types.Kit.{frame, group}
use types.Part.{whole, sub, look_in}
use types.Run.{enter, of_opd, addr, load, stop, fld, first, blocks, exec, returns}
use types.ByLocal.{alloc_all, pass_all, free_all, look_at, get, through, sets, sets_last, env}
use denote.Exit.{Exit, no, unchanged, leaves, hidden, under}
use denote.Follow.{follows, Part, lends_Part}
use denote.Laws.{shows}
use denote.Memory.{lone, pointee, part_at, part_of, cell_at, mem}
use denote.Param.Send.{IsSend, Quiet, part_keyless, owning_send, struct_send, sendable}
use denote.RattleType.{RattleType}
use denote.RawPtr.{Ptr, RawPtr, ptr_val, block_ptr, null_ptr, lies_at, in_a_block}
use denote.Ref.{MutRef, mut_vals, mut_Tells}
use denote.Signature.{plain, mut_ref_to}
use denote.Steps.{nothing, opens, peeks}
use denote.Struct.Field.{RawPtr-field}
use denote.Struct.Laws.{RawPtr-laws}
use denote.Struct.Owning.{Owning, row, shape, to, wholly}
use denote.Struct.OwningLaws.{Tells-lowered}
use denote.Struct.Struct.{Struct, exits_of}
use denote.Triple.Clauses.{Clauses, Ended, closing}
use denote.Triple.Spec.{Meets}
use denote.Triple.Walked.{Stays, walk_of, says, stay_dropped, Goes-spent_ref, ends_at}
use Rattle.std.proofs.VecSteps.Shapes.{after}

-- A place's type: a pointer, and as its ghost field the value that lies there. `V` is the value's
-- row, and `D` the type of what contracts see of a place.
pub record PlaceType : Type 2 where
  pub V : RattleType
  pub D : Type 0
  pub at : D → Ptr
  pub value : D → V.Denot
  pub with_value : D → V.Denot → D
  pub at_stays : (h : D) (w : V.Denot) → at (with_value h w) ≡ at h
  pub value_is : (h : D) (w : V.Denot) → value (with_value h w) ≡ w
  pub name : Sym
  pub coded : Coded D

module _ (H : PlaceType) where
  open H use {V, D}

  abbrev pub owning : Owning
  owning = record {
    name = H.name;
    args = [];
    types = [];
    parts = RawPtr-field ∷ [];
    D = D;
    as_values = λ h. (H.at h, tt);
    coded = H.coded;
    heap = λ h. lies_at V full_share (H.at h) (H.value h);
    exit = λ k. hidden (under (λ h. (H.at h, tt)) (exits_of k (RawPtr ∷ [])));
    shr_at = wholly (Struct (record { name = H.name; args = []; types = []; fields = RawPtr ∷ [] }))
        (λ h. (H.at h, tt)) (λ h. lies_at V full_share (H.at h) (H.value h));
  }

  abbrev R : RattleType
  R = row owning

  -- the code of `as_mut`, as it is compiled
  abbrev as_mut : Fn
  as_mut = record {
    lifetimes = 1;
    outlives = [];
    ty_params = [];
    givens = 0;
    params = 1;
    locals = local (ty_ref (named 0) mut (pointee V.written)) value_local
        ∷ local (ty_ref (named 0) mut (pointee R.written)) value_local
        ∷ local (ty_ref erased mut (pointee V.written)) value_local
        ∷ local ty_ptr value_local ∷ local ty_ptr value_local ∷ [];
    body = seq (block (
        seq (assign (place 3 []) (rv_opd (copy (place 1 (deref (lone R.mir) ∷ field 0 ∷ []))))) (
        seq (assign (place 4 []) (rv_opd (copy (place 3 [])))) (
        assign (place 2 []) (addr_of (place 4 (deref (lone V.mir) ∷ [])))))))
        (seq (assign (place 0 []) (rv_opd (copy (place 2 [])))) return);
  }

  abbrev pub ended : Ended
  ended = record {
    signature = record {
      lifetimes = 1;
      outlives = [];
      params = mut_ref_to (0 ∷ []) tt (plain (λ _. R)) ∷ [];
      result = mut_ref_to (0 ∷ []) tt (plain (λ _. V));
    };
    kept = (no, tt);
  }

  abbrev stayed : Stays ended.signature.params ended.kept
  stayed = (stay_dropped (mut_ref_to (0 ∷ []) tt (plain (λ _. R))) no, tt)

  abbrev pub clauses : {M : Type 1} {𝓤 : Ura M} → Logic 𝓤 → Clauses 𝓤 ended
  clauses {𝓤 = 𝓤} 𝓛 κs a = record {
    ghost = Unit {0};
    requires = λ _. emp 𝓤;
    ensures = λ _ r _.
        sep 𝓤 (sem 𝓛 (follows R V a.0.ghost_name r.ghost_name (H.with_value a.0.now)))
        (fact 𝓤 (r.now ≡ H.value a.0.now));
  }

module _ (H : PlaceType) {M : Type 1} {𝓤 : Ura M} (𝓛 : Logic 𝓤) (κ : Lft) (q : Share) (rb ro : ℕ)
    (γ : GName) (h : H.D) where
  open 𝓛 use {A}
  open H use {V, D}

  abbrev ref : MutBor D
  ref = record { ref_ptr = (rb, ro); ghost_name = γ; now = h }

  abbrev bound : (walk_of 𝓛 (ended H) (stayed H) (clauses H 𝓛)).Ghost
  bound = (((κ, tt), (q, tt), tt, (ref, tt), (vptr rb ro ∷ [], tt)), tt)

  module _ (b o : ℕ) (us : List Val) where
    -- all of the place except the value
    abbrev Rest : Fml
    Rest = fsep ((Struct (shape (owning H))).own_val (H.at h, tt) us)
        (cell_at full_share (R H).mir us rb ro)

    back : H.at h ≡ block_ptr b o → (w : V.Denot)
        → ent 𝓤 (sep 𝓤 (sem 𝓛 ((mem V).own_at w b o)) (sem 𝓛 Rest))
        (sem 𝓛 ((mem (R H)).own_at (H.with_value h w) rb ro))
    unfolding part_of
    back e w =
        let new = H.with_value h w in
        qed 𝓛 (‵ (part_at V full_share w b o) ∷ ‵ Rest ∷ []) ∵
        rewrite ! 0 (λ (p : Ptr). ‵ (lies_at V full_share p w))
        (sym (H.at_stays h w ∙ e)) refl $
        rewrite ! 0 (λ x. ‵ (lies_at V full_share (H.at new) x)) (sym (H.value_is h w)) refl $
        move ! (1 ∷ []) $ fsplit ! $
        rewrite ! 0 (λ (p : Ptr). ‵ ((Struct (shape (owning H))).own_val (p, tt) us))
        (sym (H.at_stays h w)) refl $
        move ! (0 ∷ 2 ∷ []) $ fjoin ! $ move ! (1 ∷ 0 ∷ []) $ fjoin ! $
        fpack ! (List Val)
        (λ vs. fsep (cell_at full_share (R H).mir vs rb ro) ((R H).own_val new vs)) us $
        done !

    exits : (γ' : GName)
        → ent 𝓤 (sep 𝓤
        (sem 𝓛 ((MutRef (named 0) κ V).own_val
        (record { ref_ptr = (b, o); ghost_name = γ'; now = H.value h }) (vptr b o ∷ [])))
        (sep 𝓤 (A.lft κ q) (sem 𝓛 (follows (R H) V γ γ' (H.with_value h)))))
        ((walk_of 𝓛 (ended H) (stayed H) (clauses H 𝓛)).post bound (vptr b o))
    exits γ' =
        let lent : MutBor V.Denot =
        record { ref_ptr = (b, o); ghost_name = γ'; now = H.value h } in
        qed 𝓛 (‵ ((MutRef (named 0) κ V).own_val lent (vptr b o ∷ [])) ∷ ‵ (flft κ q)
        ∷ ‵ (follows (R H) V γ γ' (H.with_value h)) ∷ []) ∵
        suffices ! _ (ends_at 𝓛 (ended H) (stayed H) (clauses H 𝓛) bound (vptr b o) lent
        (tt, tt) (tt, tt)) $
        nothing ! $ nothing ! $ fjoin ! $ join ! $ nothing ! $ move ! (2 ∷ 0 ∷ []) $
        join ! $ join ! $ frame ! $ says ! refl $ done !

module _ (H : PlaceType) {M : Type 1} {𝓤 : Ura M} (𝓛 : Logic 𝓤) (𝓜 : Model 𝓤 𝓛.H)
    (𝓡 : Running 𝓤 𝓛.H 𝓜) where
  open H use {V}

  pub lends : (k : Callee)
      → Closed 𝓤 𝓛.H (tables 𝓤 𝓛.H 𝓜 𝓡 𝓡.env).C (tables 𝓤 𝓛.H 𝓜 𝓡 𝓡.env).Λ k (as_mut H)
      → Meets 𝓛 (ended H).signature ((tables 𝓤 𝓛.H 𝓜 𝓡 𝓡.env).C k)
      (closing 𝓛 (ended H) (clauses H 𝓛))
  lends k closed =
      let c = clauses H 𝓛 in let W = walk_of 𝓛 (ended H) (stayed H) c in
      let 𝓣 = tables 𝓤 𝓛.H 𝓜 𝓡 𝓡.env in
      proved 𝓛 (ended H) (stayed H) c 𝓜 𝓡
      (Goes-spent_ref 𝓛 1 (0 ∷ []) tt (plain (λ _. R H)), tt) k (as_mut H) closed
      (λ κs. (mut_vals, tt)) (λ κs. (mut_Tells (named 0) κs.0 (R H), tt))
      (λ κs qs bounds a _ are.
      let κ = κs.0 in let q = qs.0 in let rb = a.0.ref_ptr.0 in let ro = a.0.ref_ptr.1 in
      let γ = a.0.ghost_name in let h = a.0.now in let vs = mut_vals a.0 in
      let y : W.Ghost = ((κs, qs, bounds, a, (vs, tt)), tt) in
      qed 𝓛 (((‵ (flft κ q) ⊛ ‵ ftrue) ⊛ ‵ ((MutRef (named 0) κ (R H)).own_val a.0 vs) ⊛ ‵ ftrue)
      ∷ ‵ ftrue ∷ []) ∵
      split ! $ split ! $ move ! (2 ∷ []) $ split ! $ keep ! (0 ∷ 2 ∷ []) $
      enter ! _ _ _ _ _ $ alloc_all ! (λ l. pass_all ! refl ((tt, tt), tt) $
      fsplit3 ! $ move ! (1 ∷ 2 ∷ 3 ∷ []) $ opens ! tt (R H) rb ro (λ us.
      move ! (1 ∷ []) $ peeks ! (R H) _ (shows 𝓛 (R H)) h us (λ is. fsplit ! $ move ! (1 ∷ []) $
      in_a_block ! (H.at h) (λ p. lies_at V full_share p (H.value h)) (id⊢ 𝓤 _) (λ b o e.
      let word = Tells-lowered (owning H) (RawPtr-laws, tt) h us is
      ∙ ap (λ (p : Ptr). vstruct (vcons (ptr_val p) vnil) ∷ []) e in
      let Cell = λ (ws : List Val). ‵ (cell_at full_share (R H).mir ws rb ro) in
      rewrite ! 2 Cell word refl $
      -- [the value; what the fields own; the place's cell; the open borrow, in three entries]
      first ! $ blocks ! $
      sets ! (of_opd ! (load ! (through ! refl (fld ! refl (stop !)))
      (look_in ! 2 (sub ! 0 refl (whole !))))) refl (tt, tt) $
      sets ! (of_opd ! (get ! refl)) refl (tt, tt) $
      sets_last ! (addr ! (through ! refl (stop !))) refl (tt, tt) $
      exec ! 𝓣.C 𝓣.Λ (env (as_mut H).locals l) (after 1 (as_mut H).body) (at_ret _ (W.post y)) $
      sets ! (of_opd ! (get ! refl)) refl (tt, tt) $
      rewrite ! 2 Cell (sym word) refl $
      move ! (1 ∷ 2 ∷ []) $ fjoin ! $ move ! (2 ∷ 3 ∷ 4 ∷ 1 ∷ 0 ∷ []) $ group ! 5 $
      let new = H.with_value h in let rest = sem 𝓛 (Rest H 𝓛 κ q rb ro γ h b o us) in
      let backs = back H 𝓛 κ q rb ro γ h b o us e in
      use1 𝓛 (later (some (λ (γ' : GName).
      raw (Part 𝓛 (R H) V new (named 0) κ q rb ro b o γ rest backs (H.value h) γ'))))
      (lends_Part 𝓛 (R H) V new (named 0) κ q rb ro b o γ rest backs
      ((R H).coded.code h) ((R H).coded.code h) (H.value h)) $ await ! tt $ pick ! (λ γ'.
      returns ! (look_at ! 0 refl) $ free_all ! refl $
      keep ! (0 ∷ []) $ by ! (exits H 𝓛 κ q rb ro γ h b o us γ')))))))

quiet : {D X : Type 0} (to : D → X) (e : Exit X) → Quiet e → Quiet (hidden (under to e))
quiet to unchanged q = λ x w. tt
quiet to (leaves L l S s r₀) q = λ d. q (to d)

lies : (R : RattleType) → IsSend R → (p : Ptr) (x : R.Denot) → Keyless (lies_at R full_share p x)
lies R s (block_ptr b o) x = part_keyless R s full_share x b o
lies R s null_ptr x = tt

module _ (H : PlaceType) where
  pub sends : IsSend H.V → IsSend (R H)
  sends s =
      let pointer : IsSend RawPtr = search sendable in let S = shape (owning H) in
      owning_send (owning H) (pointer, tt) (λ h. lies H.V s (H.at h) (H.value h))
      (λ k. quiet (to (owning H)) (exits_of k S.fields) ((struct_send S (pointer, tt)).leaving k))
