-- What protects a key, over calls and cuts and in copies
use Rattle.std.proofs.Common.{◌≡◌, ℕ, true, List, [], Some, sym, ap, ◌∙◌, subst}
use Rattle.std.specs.Prelude.{unwrap_or}
use Rattle.std.proofs.lemmas.Option.{same_Some}
use Rattle.ck_objects.specs.Records.{with_given, is_set}
use Rattle.ck_types.specs.TokenLimits.{Ranges}
use Rattle.ck_objects.specs.declared.attributes.Attribute.TheVariants as attribute
use Rattle.ck_objects.specs.declared.items.Item.{Item}
use Rattle.ck_objects.proofs.ChangeLemmas.{KeepsProtection}
use Rattle.ck_journal.specs.declared.calls.Call.TheVariants as call
use Rattle.ck_journal.specs.declared.calls.Entry.{Entry}
use Rattle.ck_journal.specs.Events.{Event, after_events, AreSoundEvents}
use Rattle.ck_journal.specs.Histories.{History, ◌◁◌}
use Rattle.ck_journal.specs.KeyLaws.{Copies, CopiesStaySensitive, CopiesStayUnextractable}
use Rattle.ck_journal.specs.KeyLaws.{CopiesStayPrivate}
use Rattle.ck_journal.specs.Laws.{IsSoundHistory}
use Rattle.ck_journal.specs.LawsOverEvents.{SensitiveStays, UnextractableStays}
use Rattle.ck_journal.specs.LawsOverEvents.{AlwaysSensitiveIsTrue, NeverExtractableIsTrue}
use Rattle.ck_journal.specs.Objects.{creates, creation_attributes, object_at}
use Rattle.ck_journal.specs.Objects.{attributes_named}
use Rattle.ck_journal.proofs.EventLemmas.{events-keep}
use Rattle.ck_journal.proofs.LegalLemmas.{passed-done}
use Rattle.ck_journal.proofs.ObjectMoves.{object_at-created}
use Rattle.ck_journal.proofs.ProtectionLemmas.{keeps-itself, protection_stays, copy-found}
use Rattle.ck_journal.proofs.ProtectionLemmas.{object-protected}

-- ---- from any front to any later one

keeps-both : (a b c : List Item) → KeepsProtection a b → KeepsProtection b c → KeepsProtection a c
keeps-both a b c first later = record {
  sensitive = λ t. later.sensitive (first.sensitive t);
  extractable = λ f. later.extractable (first.extractable f);
  always_sensitive = later.always_sensitive ∙ first.always_sensitive;
  never_extractable = later.never_extractable ∙ first.never_extractable;
}

pub fronts-keep : (limits : Ranges) (h : History) (later : List Event)
    → AreSoundEvents limits h later → (n : ℕ) (a b : List Item)
    → object_at h n ≡ Some a → object_at (after_events h later) n ≡ Some b → KeepsProtection a b
fronts-keep limits =
    events-keep limits KeepsProtection keeps-itself keeps-both
    (λ e h good. protection_stays limits good.in_range e h good.sound good.legal)

pub sensitive-stays : SensitiveStays
sensitive-stays limits h later sound n a b was now =
    (fronts-keep limits h later sound n a b was now).sensitive

pub unextractable-stays : UnextractableStays
unextractable-stays limits h later sound n a b was now =
    (fronts-keep limits h later sound n a b was now).extractable

-- ---- since the creation

pub always-sensitive : AlwaysSensitiveIsTrue
always-sensitive limits h later sound n a b was now t =
    let kept = fronts-keep limits h later sound n a b was now in
    let good = sound.good in
    (object-protected limits good.in_range h good.sound good.legal n a was).sensitive
    (sym kept.always_sensitive ∙ t)

pub never-extractable : NeverExtractableIsTrue
never-extractable limits h later sound n a b was now t =
    let kept = fronts-keep limits h later sound n a b was now in
    let good = sound.good in
    (object-protected limits good.in_range h good.sound good.legal n a was).unextractable
    (sym kept.never_extractable ∙ t)

-- ---- in a copy

copy-keeps : (limits : Ranges) (e : Entry) (h : History) → IsSoundHistory limits (e ◁ h)
    → (source copy : List Item) → Copies e h source copy
    → KeepsProtection source copy
    × (is_set source attribute.Private ≡ true → is_set copy attribute.Private ≡ true)
copy-keeps limits e h good source copy made =
    let did = call.CopyObject made.session made.handle made.template in
    let found = copy-found limits h made.session made.handle made.template
    (passed-done limits e h good.legal did made.copies) in
    let same : found.0 ≡ source = same_Some found.0 source (sym found.1 ∙ made.named) in
    let given = object_at-created e h (ap creates made.copies)
    ∙ ap (λ d. Some (creation_attributes d (attributes_named h))) made.copies
    ∙ ap (λ o. Some (with_given made.template.items (unwrap_or o []))) made.named in
    let Keeps = λ (a b : List Item). KeepsProtection a b
    × (is_set a attribute.Private ≡ true → is_set b attribute.Private ≡ true) in
    subst (Keeps source) (same_Some _ copy (sym given ∙ made.created))
    (subst (λ items. Keeps items (with_given made.template.items items)) same (found.2, found.3))

pub copies-sensitive : CopiesStaySensitive
copies-sensitive limits e h good source copy made =
    (copy-keeps limits e h good source copy made).0.sensitive

pub copies-unextractable : CopiesStayUnextractable
copies-unextractable limits e h good source copy made =
    (copy-keeps limits e h good source copy made).0.extractable

pub copies-private : CopiesStayPrivate
copies-private limits e h good source copy made =
    (copy-keeps limits e h good source copy made).1
