-- The lists of sessions
use Rattle.std.proofs.Common.{◌≡◌, ◌⊎◌, ℕ, ◌<◌, ◌++◌, List, [], ◌∷◌, Some, Contains, sym, ap, ◌∙◌}
use Rattle.std.proofs.Common.{subst}
use Rattle.std.proofs.Common.{set, get_or, length, inl, inr, arith, position, Bool, true, false}
use Rattle.std.proofs.Common.{refl}
use Rattle.std.specs.Prelude.{◌==◌}
use Rattle.std.proofs.lemmas.Bool.{cases_eq, eqb-true, and_parts}
use Rattle.std.proofs.lemmas.List.Quantifiers.{position-Some}
use Rattle.std.proofs.lemmas.List.{get_or-set_same, get_or-set_other, length-set, get_or_default}
use Rattle.std.proofs.lemmas.List.Elements.{Contains-append_left, Contains-get_or, Contains-push}
use Rattle.std.proofs.lemmas.List.Elements.{Contains-push_cases}
use Rattle.std.specs.Bool.{beq}
use Rattle.ck_store.specs.Index.{IsListed, is_list_of}
use Rattle.ck_store.specs.declared.places.Place.{Place}
use Rattle.ck_store.specs.declared.session_lists.SessionList.{SessionList}

module _ (lists : List SessionList) (session : ℕ) (private : Bool) (place : Place) where
  -- ---- a list of the session takes the place

  module _ (i : ℕ) (item new : SessionList) (within : i < length lists)
      (is : item ≡ get_or lists i item) (of_session : item.session ≡ session)
      (of_private : item.private ≡ private) (same : new.session ≡ item.session)
      (same_private : new.private ≡ item.private) where
    set_here : (d : SessionList) → get_or (set lists i new) i d ≡ new
    set_here d = get_or-set_same lists i new d within

    pub IsListed-taken : Contains new.places.items place → IsListed (set lists i new) session
        private place
    IsListed-taken there = record {
      list = new;
      among = (i, omega (arith, length-set lists i new), set_here new);
      own = same ∙ of_session;
      mark = same_private ∙ of_private;
      holds = there;
    }

    pub IsListed-kept : (s : ℕ) (m : Bool) (p : Place)
        → (Contains item.places.items p → Contains new.places.items p)
        → IsListed lists s m p → IsListed (set lists i new) s m p
    IsListed-kept s m p keeps listed = elim (cases_eq listed.among.0 i) [
      | inl here ↦
          let this : item ≡ listed.list =
          is ∙ get_or_default lists i item listed.list within
          ∙ ap (λ k. get_or lists k listed.list) (sym here) ∙ listed.among.2 in
          record {
            list = new;
            among = (i, omega (arith, length-set lists i new), set_here new);
            own = same ∙ ap (λ (l : SessionList). l.session) this ∙ listed.own;
            mark = same_private ∙ ap (λ (l : SessionList). l.private) this ∙ listed.mark;
            holds = keeps
                (subst (λ (l : SessionList). Contains l.places.items p) (sym this) listed.holds);
          }
      | inr other ↦ record {
        list = listed.list;
        among = (
          listed.among.0,
          omega (arith, listed.among.1, length-set lists i new),
          get_or-set_other lists i listed.among.0 new listed.list other ∙ listed.among.2,
        );
        own = listed.own;
        mark = listed.mark;
        holds = listed.holds;
      }
    ]

    pub IsListed-only : (s : ℕ) (m : Bool) (p : Place)
        → (Contains new.places.items p → Contains item.places.items p ⊎ (p ≡ place))
        → IsListed (set lists i new) s m p
        → IsListed lists s m p ⊎ ((s ≡ session) × (m ≡ private) × (p ≡ place))
    IsListed-only s m p only listed = elim (cases_eq listed.among.0 i) [
      | inl here ↦
          let this : new ≡ listed.list =
          sym (set_here listed.list)
          ∙ ap (λ k. get_or (set lists i new) k listed.list) (sym here) ∙ listed.among.2 in
          by_place (ap (λ (l : SessionList). l.session) this ∙ listed.own)
          (ap (λ (l : SessionList). l.private) this ∙ listed.mark)
          (only (subst (λ (l : SessionList). Contains l.places.items p) (sym this) listed.holds))
      | inr other ↦ inl (record {
        list = listed.list;
        among = (
          listed.among.0,
          omega (arith, listed.among.1, length-set lists i new),
          sym (get_or-set_other lists i listed.among.0 new listed.list other) ∙ listed.among.2,
        );
        own = listed.own;
        mark = listed.mark;
        holds = listed.holds;
      })
    ]
      where
        by_place : new.session ≡ s → new.private ≡ m
            → Contains item.places.items p ⊎ (p ≡ place)
            → IsListed lists s m p ⊎ ((s ≡ session) × (m ≡ private) × (p ≡ place))
        by_place owned marked (inl old) = inl (record {
          list = item;
          among = subst (Contains lists) (sym is) (Contains-get_or lists i item within);
          own = sym same ∙ owned;
          mark = sym same_private ∙ marked;
          holds = old;
        })
        by_place owned marked (inr added) = inr (
          sym owned ∙ same ∙ of_session,
          sym marked ∙ same_private ∙ of_private,
          added,
        )

  -- ---- one more list

  module _ (list : SessionList) (of_session : list.session ≡ session)
      (of_private : list.private ≡ private) where
    pub IsListed-first : Contains list.places.items place
        → IsListed (lists ++ list ∷ []) session private place
    IsListed-first there = record {
      list = list;
      among = Contains-push lists list;
      own = of_session;
      mark = of_private;
      holds = there;
    }

    pub IsListed-others : (s : ℕ) (m : Bool) (p : Place) → IsListed lists s m p
        → IsListed (lists ++ list ∷ []) s m p
    IsListed-others s m p listed = record {
      list = listed.list;
      among = Contains-append_left lists (list ∷ []) listed.list listed.among;
      own = listed.own;
      mark = listed.mark;
      holds = listed.holds;
    }

    pub IsListed-first_only : ((p : Place) → Contains list.places.items p → p ≡ place)
        → (s : ℕ) (m : Bool) (p : Place) → IsListed (lists ++ list ∷ []) s m p
        → IsListed lists s m p ⊎ ((s ≡ session) × (m ≡ private) × (p ≡ place))
    IsListed-first_only only s m p listed =
        elim (Contains-push_cases lists list listed.list listed.among) [
          | inl old ↦ inl (record {
            list = listed.list;
            among = old;
            own = listed.own;
            mark = listed.mark;
            holds = listed.holds;
          })
          | inr this ↦
              inr (
                sym (ap (λ (l : SessionList). l.session) this ∙ listed.own) ∙ of_session,
                sym (ap (λ (l : SessionList). l.private) this ∙ listed.mark) ∙ of_private,
                only p (subst (λ (l : SessionList). Contains l.places.items p) (sym this)
                    listed.holds),
              )
        ]

same_mark : (a b : Bool) → beq a b ≡ true → a ≡ b
same_mark true true e = refl
same_mark false false e = refl
same_mark true false e = absurd (cc)
same_mark false true e = absurd (cc)

-- the list at the place that was found
pub found_list : (lists slice : List SessionList) (session : ℕ) (private : Bool) (i : ℕ)
    (item : SessionList) → slice ≡ lists → i < length slice
    → Some i ≡ position (is_list_of session private) slice → item ≡ get_or lists i item
    → (i < length lists) × (item.session ≡ session) × (item.private ≡ private)
found_list lists slice session private i item same within found is =
    let l = get_or lists i item in
    let tests =
    and_parts (l.session == session) (beq l.private private)
    (position-Some (is_list_of session private) lists i item (sym (rw same at found))).1 in (
      subst (λ (ls : List SessionList). i < length ls) same within,
      ap (λ (x : SessionList). x.session) is ∙ eqb-true l.session session tests.0,
      ap (λ (x : SessionList). x.private) is ∙ same_mark l.private private tests.1,
    )
