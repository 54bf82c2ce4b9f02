-- What protects the keys of a legal history
use Rattle.std.proofs.Common.{◌≡◌, ℕ, suc, Bool, true, false, cond, ◌&&◌, List, [], ◌∷◌}
use Rattle.std.proofs.Common.{Option, Some, None, All, refl, sym, ◌∙◌, subst}
use Rattle.std.specs.Prelude.{◌==◌, find, option_and_then, option_map, unwrap_or}
use Rattle.std.proofs.lemmas.Bool.{false≢true, not-true}
use Rattle.std.proofs.lemmas.List.Elements.{All-head, All-tail}
use Rattle.std.proofs.lemmas.Option.{same_Some}
use Rattle.ck_objects.specs.Records.{created_items, generated_items, with_given, is_set}
use Rattle.ck_objects.specs.Records.{protections_of, copied_error, changed_error}
use Rattle.ck_objects.specs.Templates.{class_of, created_error}
use Rattle.ck_types.specs.TokenLimits.{Ranges, AreInRange}
use Rattle.ck_objects.specs.declared.attributes.Attribute.TheVariants as attribute
use Rattle.ck_types.specs.declared.errors.RvError.TheVariants as rv_error
use Rattle.ck_objects.specs.declared.items.Item.{Item}
use Rattle.ck_objects.specs.declared.templates.Template.{Template}
use Rattle.ck_objects.proofs.ChangeLemmas.{KeepsProtection, copied-protection, changed-protection}
use Rattle.ck_objects.proofs.ChangeLemmas.{protection-in_state, copied-private}
use Rattle.ck_types.proofs.CheckLemmas.{or_else-none}
use Rattle.ck_objects.proofs.KeyLemmas.{created-unprotected, generated-sensitive}
use Rattle.ck_objects.proofs.KeyLemmas.{generated-extractable}
use Rattle.ck_journal.specs.declared.bases.KeptObject.{KeptObject}
use Rattle.ck_journal.specs.declared.calls.Call.{Call}
use Rattle.ck_journal.specs.declared.calls.Call.TheVariants as call
use Rattle.ck_journal.specs.declared.calls.Entry.{Entry}
use Rattle.ck_journal.specs.Answers.{IsLegal, call_error, session_error, object_error}
use Rattle.ck_journal.specs.Answers.{prohibited_error}
use Rattle.ck_journal.specs.Bases.{IsSound, IsProtected}
use Rattle.ck_journal.specs.Histories.{History, start, ◌◁◌, start_of, done}
use Rattle.ck_journal.specs.Objects.{creates, creations, creation_attributes, object_after}
use Rattle.ck_journal.specs.Objects.{object_at, attributes_named, view_of, session_of}
use Rattle.ck_journal.proofs.LegalLemmas.{by-done, later-passes, last-passes, object-found}
use Rattle.ck_journal.proofs.LegalLemmas.{object_stays}
use Rattle.ck_journal.proofs.NameLemmas.{named-object, found-named}

-- ---- what keeps it

pub keeps-itself : (a : List Item) → KeepsProtection a a
keeps-itself a = record {
  sensitive = λ t. t;
  extractable = λ f. f;
  always_sensitive = refl;
  never_extractable = refl;
}

-- where it is kept, a key stays as it is said to have been
pub protected-kept : (a b : List Item) → KeepsProtection a b → IsProtected a → IsProtected b
protected-kept a b kept protected = record {
  sensitive = λ t. kept.sensitive (protected.sensitive (sym kept.always_sensitive ∙ t));
  unextractable = λ t. kept.extractable (protected.unextractable (sym kept.never_extractable ∙ t));
}

module _ (limits : Ranges)
    (in_range : AreInRange limits.sessions limits.openings limits.creations limits.logins) where
  -- an entry keeps it of every object that it doesn't end
  pub protection_stays : (e : Entry) (h : History) → IsSound (start_of h) → IsLegal limits (e ◁ h)
      → (n : ℕ) (a b : List Item) → object_at h n ≡ Some a → object_at (e ◁ h) n ≡ Some b
      → KeepsProtection a b
  protection_stays e h sound legal n a b was =
      object_stays limits h n a (KeepsProtection a) (keeps-itself a)
      (λ object found template is named fine.
      let same = found-named limits in_range h sound legal.1 object n a found was named is in
      changed-protection template a
      (subst (λ items. changed_error (class_of items) (protections_of items) template ≡ None)
      same fine))
      (λ s. protection-in_state s a) e sound legal b was

-- ---- what a creation gives

-- a copy that passes its checks: the handle names an object, and its protection allows the template
pub copy-found : (limits : Ranges) (h : History) (session object : ℕ) (template : Template)
    → call_error limits h (call.CopyObject session object template) ≡ None
    → (source : List Item) × (attributes_named h object ≡ Some source)
    × KeepsProtection source (with_given template.items source)
    × (is_set source attribute.Private ≡ true
    → is_set (with_given template.items source) attribute.Private ≡ true)
copy-found limits h session object template p =
    let found = object-found (attributes_named h object) _ rv_error.ObjectHandleInvalid
    (last-passes (object_error h object _) (later-passes (session_error h session) _ p)) in
    let rest = later-passes (prohibited_error attribute.Copyable found.0) _ found.2 in
    let copied = copied_error (class_of found.0) (protections_of found.0) template.items in
    let fine = (or_else-none copied _ rest).0 in (
      found.0,
      found.1,
      copied-protection template.items found.0 fine,
      copied-private template.items found.0 fine,
    )

created-protected : (template : List Item) → created_error template ≡ None
    → IsProtected (created_items template)
created-protected template fine =
    let unsaid = created-unprotected template fine in
    record {
      sensitive = λ t. absurd (false≢true (sym unsaid.0 ∙ t));
      unextractable = λ t. absurd (false≢true (sym unsaid.1 ∙ t));
    }

generated-protected : (template : List Item) (random : List ℕ)
    → IsProtected (generated_items template random)
generated-protected template random = record {
  sensitive = λ t. generated-sensitive template random ∙ t;
  unextractable = λ t. not-true _ (generated-extractable template random ∙ t);
}

creation-protected : (limits : Ranges) (h : History)
    → ((n : ℕ) (a : List Item) → object_at h n ≡ Some a → IsProtected a)
    → (c : Call) → call_error limits h c ≡ None → creates (Some c) ≡ true
    → IsProtected (creation_attributes (Some c) (attributes_named h))
creation-protected limits h before (call.CreateObject session template) p t =
    let rest = later-passes (session_error h session) _ p in
    created-protected template.items (or_else-none (created_error template.items) _ rest).0
creation-protected limits h before (call.GenerateKey session mechanism template random) p t =
    generated-protected template.items random
creation-protected limits h before (call.CopyObject session object template) p t =
    let found = copy-found limits h session object template p in
    let named = named-object h object found.0 found.1 in
    subst (λ o. IsProtected (with_given template.items (unwrap_or o []))) (sym found.1)
    (protected-kept found.0 (with_given template.items found.0) found.2
    (before named.0 found.0 named.2))
creation-protected limits h before other p t = cc

-- ---- every object

-- what is so of all kept objects is so of the one that is found
pub kept-all : (P : List Item → Type 0) (n : ℕ) (objects : List KeptObject)
    → All (λ (kept : KeptObject). P kept.attributes) objects → (a : List Item)
    → option_map (λ (kept : KeptObject). kept.attributes)
    (find (λ (kept : KeptObject). kept.number == n) objects) ≡ Some a → P a
kept-all P n [] all a e = cc
kept-all P n (kept ∷ objects) all a e =
    cases (kept.number == n) (All-head (λ (k : KeptObject). P k.attributes) kept objects all)
    (kept-all P n objects (All-tail (λ (k : KeptObject). P k.attributes) kept objects all) a) e
  where
    cases : (same : Bool) → P kept.attributes
        → (option_map (λ (k : KeptObject). k.attributes)
        (find (λ (k : KeptObject). k.number == n) objects) ≡ Some a → P a)
        → option_map (λ (k : KeptObject). k.attributes)
        (cond same (Some kept) (find (λ (k : KeptObject). k.number == n) objects)) ≡ Some a → P a
    cases true here later e = subst P (same_Some kept.attributes a e) here
    cases false here later e = later e

-- in a legal history that starts from a sound base every key is as sensitive and as little
-- extractable as it is said to have been
pub object-protected : (limits : Ranges)
    → AreInRange limits.sessions limits.openings limits.creations limits.logins
    → (h : History) → IsSound (start_of h) → IsLegal limits h
    → (n : ℕ) (a : List Item) → object_at h n ≡ Some a → IsProtected a
object-protected limits in_range (start b) sound legal n a is =
    kept-all IsProtected n b.objects sound.protected a is
object-protected limits in_range (e ◁ h) sound legal n a is =
    cases (object-protected limits in_range h sound legal.1) (creates (done e))
    (n == suc (creations h)) refl refl (object_at h n) refl is
  where
    cases : ((k : ℕ) (b : List Item) → object_at h k ≡ Some b → IsProtected b)
        → (created new : Bool) → creates (done e) ≡ created → n == suc (creations h) ≡ new
        → (was : Option (List Item)) → object_at h n ≡ was
        → cond (created && new) (Some (creation_attributes (done e) (attributes_named h)))
        (option_and_then (object_after (done e) (view_of h) n (session_of h n)) was) ≡ Some a
        → IsProtected a
    cases before true true t s was w now =
        subst IsProtected (same_Some _ a now)
        (by-done limits e h legal
        (λ d. creates d ≡ true → IsProtected (creation_attributes d (attributes_named h)))
        (λ t. cc) (creation-protected limits h before) t)
    cases before created new t s None w now = cc
    cases before created new t s (Some b) w now =
        protected-kept b a (protection_stays limits in_range e h sound legal n b a w is)
        (before n b w)
