-- What is so in every history that is legal from a sound base: laws of what keys reveal, of their
-- states (NIST SP 800-57 Part 1 Revision 5, Key states and transitions) and of copies
use Rattle.std.specs.Prelude.{◌≡◌, ℕ, suc, Bool, true, false, List, [], Option, Some, ◌==◌, take}
use Rattle.std.specs.Prelude.{Contains, option_map}
use Rattle.std.specs.List.{slice_get}
use Rattle.ck_objects.specs.Attributes.{Column, column_of, type_of}
use Rattle.ck_objects.specs.KeyStates.{may_sign, may_verify}
use Rattle.ck_objects.specs.Records.{is_set, is_key, is_revealable, key_value, state_in}
use Rattle.ck_objects.specs.Templates.{class_of, value_at}
use Rattle.ck_types.specs.TokenLimits.{Ranges}
use Rattle.ck_types.specs.declared.hashes.Hash.{Hash}
use Rattle.ck_mac.specs.Computations.{hmac_by}
use Rattle.ck_mac.specs.Macs.{hmac}
use Rattle.ck_objects.specs.declared.attributes.Attribute.{Attribute}
use Rattle.ck_objects.specs.declared.attributes.Attribute.TheVariants as attribute
use Rattle.ck_objects.specs.declared.attributes.Class.{Class}
use Rattle.ck_objects.specs.declared.items.Item.{Item}
use Rattle.ck_objects.specs.declared.key_states.KeyState.{KeyState}
use Rattle.ck_objects.specs.declared.templates.Template.{Template}
use Rattle.ck_journal.specs.declared.calls.AttributeQuery.{AttributeQuery}
use Rattle.ck_journal.specs.declared.calls.Call.{Call}
use Rattle.ck_journal.specs.declared.calls.Call.TheVariants as call
use Rattle.ck_journal.specs.declared.calls.Entry.{Entry}
use Rattle.ck_journal.specs.declared.operations.OperationKind.{OperationKind}
use Rattle.ck_journal.specs.declared.operations.OperationKind.TheVariants as kind
use Rattle.ck_journal.specs.declared.replies.Answer.{Answer}
use Rattle.ck_journal.specs.declared.replies.Answer.TheVariants as answer
use Rattle.ck_journal.specs.declared.replies.Body.TheVariants as body
use Rattle.ck_journal.specs.Answers.{may_serve, usage_flag}
use Rattle.ck_journal.specs.Histories.{History, ◌◁◌, done}
use Rattle.ck_journal.specs.Laws.{IsSoundHistory}
use Rattle.ck_journal.specs.Objects.{creations, object_at, attributes_named}
use Rattle.ck_journal.specs.Operations.{starts, is_active, init_key, key_in, computation_in}
use Rattle.ck_journal.specs.Operations.{message_in}
use Rattle.ck_journal.specs.Searches.{found_objects}

-- ---- what may be read

-- the entry, whatever its code, answers a query for CKA_VALUE under this handle with these bytes
pub record GivesValue (e : Entry) (handle : ℕ) (bytes : List ℕ) : Type 0 where
  pub session : ℕ
  pub queries : List AttributeQuery
  pub answers : List Answer
  pub place : ℕ
  pub query : AttributeQuery
  pub asks : e.call ≡ call.GetAttributeValue session handle queries
  pub returns : e.reply.body ≡ body.Attributes answers
  pub queried : slice_get queries place ≡ Some query
  pub of_value : query.kind ≡ type_of attribute.Value
  pub given : slice_get answers place ≡ Some (answer.Value bytes)

-- the handle names an object whose CKA_VALUE is these bytes and may be revealed
pub record ReadsValue (h : History) (handle : ℕ) (bytes : List ℕ) : Type 0 where
  pub attributes : List Item
  pub named : attributes_named h handle ≡ Some attributes
  pub revealable : is_revealable attributes ≡ true
  pub value : value_at attributes (type_of attribute.Value) ≡ Some bytes

-- the bytes that are given for CKA_VALUE are those of the object that the handle names just before,
-- and only where they may be revealed there
abbrev pub HiddenValuesAreNotGiven : Type 0
HiddenValuesAreNotGiven =
    (limits : Ranges) (e : Entry) (h : History) → IsSoundHistory limits (e ◁ h)
    → (handle : ℕ) (bytes : List ℕ) → GivesValue e handle bytes → ReadsValue h handle bytes

-- a search whose template gives CKA_VALUE finds no object whose value may not be revealed when it
-- starts
abbrev pub HiddenValuesAreNotFound : Type 0
HiddenValuesAreNotFound =
    (limits : Ranges) (e : Entry) (h : History) → IsSoundHistory limits (e ◁ h)
    → (session n : ℕ) (template : Template) (item : Item) (attributes : List Item)
    → done e ≡ Some (call.FindObjectsInit session template)
    → Contains template.items item → item.kind ≡ type_of attribute.Value
    → object_at h n ≡ Some attributes → is_revealable attributes ≡ false
    → Contains (found_objects (e ◁ h) session) n → ⊥

-- ---- states of keys

-- an operation of the kind is active in the session, and its key hasn't ended and is of a state
-- that passes the test
pub record HasKey (k : OperationKind) (test : KeyState → Bool) (h : History) (session : ℕ) :
    Type 0 where
  pub key : ℕ
  pub attributes : List Item
  pub state : KeyState
  pub active : is_active k h session ≡ true
  pub chosen : key_in k h session ≡ Some key
  pub present : object_at h key ≡ Some attributes
  pub has_state : state_in attributes ≡ Some state
  pub serves : test state ≡ true

-- the call signs in this session: a single-part message, or the end of a multiple-part one
abbrev pub signs : Option Call → ℕ → Bool
signs (Some (call.Sign session bytes room)) s = session == s
signs (Some (call.SignFinal session room)) s = session == s
signs other s = false

-- the call verifies a signature in this session, likewise
abbrev pub verifies : Option Call → ℕ → Bool
verifies (Some (call.Verify session bytes signature)) s = session == s
verifies (Some (call.VerifyFinal session signature)) s = session == s
verifies other s = false

-- where a signature is answered OK, its operation is active just before, and its key hasn't ended
-- and is of a state that signs
abbrev pub SigningKeysMaySign : Type 0
SigningKeysMaySign =
    (limits : Ranges) (e : Entry) (h : History) → IsSoundHistory limits (e ◁ h) → (session : ℕ)
    → signs (done e) session ≡ true → HasKey kind.Sign may_sign h session

-- where a verification is answered OK, its operation is active just before, and its key hasn't
-- ended and is of a state that verifies
abbrev pub VerifyingKeysMayVerify : Type 0
VerifyingKeysMayVerify =
    (limits : Ranges) (e : Entry) (h : History) → IsSoundHistory limits (e ◁ h) → (session : ℕ)
    → verifies (done e) session ≡ true → HasKey kind.Verify may_verify h session

-- the handle names a key with the flag that operations of the kind need, and of a state that serves
pub record IsUsable (k : OperationKind) (h : History) (handle : ℕ) : Type 0 where
  pub attributes : List Item
  pub state : KeyState
  pub named : attributes_named h handle ≡ Some attributes
  pub of_key : is_key attributes ≡ true
  pub flag : is_set attributes (usage_flag k) ≡ true
  pub has_state : state_in attributes ≡ Some state
  pub serves : may_serve k state ≡ true

-- where the start of a signature or a verification is answered OK, its key may be used for it just
-- before
abbrev pub OperationsStartWithUsableKeys : Type 0
OperationsStartWithUsableKeys =
    (limits : Ranges) (e : Entry) (h : History) → IsSoundHistory limits (e ◁ h)
    → (k : OperationKind) (session handle : ℕ) → starts (done e) k session ≡ true
    → init_key (done e) ≡ Some handle → IsUsable k h handle

-- the message that the call signs
abbrev pub signed_message : History → Option Call → List ℕ
signed_message h (Some (call.Sign session bytes room)) = bytes
signed_message h (Some (call.SignFinal session room)) = message_in kind.Sign h session
signed_message h other = []

-- the session's signature operation has a key that hasn't ended, and the signature is the first
-- bytes of the HMAC of the message under the value that this key has now, by the hash function and
-- of the length that the operation was started with
pub record IsSignatureIn (h : History) (session : ℕ) (message signature : List ℕ) : Type 0 where
  pub key : ℕ
  pub attributes : List Item
  pub hash : Hash
  pub n : ℕ
  pub chosen : key_in kind.Sign h session ≡ Some key
  pub present : object_at h key ≡ Some attributes
  pub computes : computation_in kind.Sign h session ≡ Some (hmac_by hash (key_value attributes) n)
  pub tag : signature ≡ take n (hmac hash (key_value attributes) message)

-- a signature that is returned is such a one just before
abbrev pub SignaturesAreOfTheKey : Type 0
SignaturesAreOfTheKey =
    (limits : Ranges) (e : Entry) (h : History) → IsSoundHistory limits (e ◁ h)
    → (session : ℕ) (signature : List ℕ) → signs (done e) session ≡ true
    → e.reply.body ≡ body.Bytes signature
    → IsSignatureIn h session (signed_message h (done e)) signature

-- ---- copies

abbrev pub is_sensitive_key : List Item → Bool
is_sensitive_key attributes = is_set attributes attribute.Sensitive

abbrev pub is_extractable : List Item → Bool
is_extractable attributes = is_set attributes attribute.Extractable

-- the entry creates a copy of an object with these attributes, and these are those of the copy
pub record Copies (e : Entry) (h : History) (source copy : List Item) : Type 0 where
  pub session : ℕ
  pub handle : ℕ
  pub template : Template
  pub copies : done e ≡ Some (call.CopyObject session handle template)
  pub named : attributes_named h handle ≡ Some source
  pub created : object_at (e ◁ h) (suc (creations h)) ≡ Some copy

-- at its creation a copy of a sensitive key is sensitive
abbrev pub CopiesStaySensitive : Type 0
CopiesStaySensitive =
    (limits : Ranges) (e : Entry) (h : History) → IsSoundHistory limits (e ◁ h)
    → (source copy : List Item) → Copies e h source copy
    → is_sensitive_key source ≡ true → is_sensitive_key copy ≡ true

-- and a copy of a key that isn't extractable isn't either
abbrev pub CopiesStayUnextractable : Type 0
CopiesStayUnextractable =
    (limits : Ranges) (e : Entry) (h : History) → IsSoundHistory limits (e ◁ h)
    → (source copy : List Item) → Copies e h source copy
    → is_extractable source ≡ false → is_extractable copy ≡ false

-- a copy of a private object is private
abbrev pub CopiesStayPrivate : Type 0
CopiesStayPrivate =
    (limits : Ranges) (e : Entry) (h : History) → IsSoundHistory limits (e ◁ h)
    → (source copy : List Item) → Copies e h source copy
    → is_set source attribute.Private ≡ true → is_set copy attribute.Private ≡ true

-- an object is copied only where its CKA_COPYABLE is true
abbrev pub UncopyableObjectsAreNotCopied : Type 0
UncopyableObjectsAreNotCopied =
    (limits : Ranges) (e : Entry) (h : History) → IsSoundHistory limits (e ◁ h)
    → (source copy : List Item) → Copies e h source copy → is_set source attribute.Copyable ≡ true

-- where a value may not be revealed, that of a copy may not either at its creation
abbrev pub CopiesStayHidden : Type 0
CopiesStayHidden =
    (limits : Ranges) (e : Entry) (h : History) → IsSoundHistory limits (e ◁ h)
    → (source copy : List Item) → Copies e h source copy
    → is_revealable source ≡ false → is_revealable copy ≡ false

-- where objects of the class have the attribute: whether a template of a copy may give it
abbrev pub copies_give : Class → Attribute → Option Bool
copies_give c a = option_map (λ (entry : Column). entry.purposes.copy) (column_of c a)

-- what no template of a copy may give, a copy has at its creation as its source has it: the value
-- of a key, its type, its state, and how it came to be
abbrev pub CopiesKeepTheRest : Type 0
CopiesKeepTheRest =
    (limits : Ranges) (e : Entry) (h : History) → IsSoundHistory limits (e ◁ h)
    → (source copy : List Item) → Copies e h source copy → (a : Attribute)
    → copies_give (class_of source) a ≡ Some false
    → value_at copy (type_of a) ≡ value_at source (type_of a)
