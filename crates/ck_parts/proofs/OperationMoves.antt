-- What the calls do to operations
use Rattle.std.proofs.Common.{◌≡◌, ℕ, Bool, true, false, cond, not, List, [], ◌∷◌, Option, Some}
use Rattle.std.proofs.Common.{None, refl, sym, ap, ◌∙◌, length, rules}
use Rattle.std.specs.Prelude.{◌==◌, ◌&&◌, ◌||◌, is_some}
use Rattle.ck_types.specs.declared.errors.RvError.{RvError}
use Rattle.ck_types.specs.declared.errors.RvError.TheVariants as rv_error
use Rattle.ck_types.specs.declared.return_codes.Rv.{Rv}
use Rattle.ck_types.specs.declared.return_codes.Rv.TheVariants as rv
use Rattle.ck_types.specs.declared.users.UserType.{UserType}
use Rattle.ck_journal.specs.declared.calls.Call.{Call}
use Rattle.ck_journal.specs.declared.calls.Call.TheVariants as call
use Rattle.ck_journal.specs.declared.calls.Entry.{Entry}
use Rattle.ck_journal.specs.declared.operations.OperationKind.{OperationKind}
use Rattle.ck_journal.specs.declared.operations.OperationKind.TheVariants as kind
use Rattle.ck_journal.specs.declared.replies.Body.{Body}
use Rattle.ck_journal.specs.declared.replies.Body.TheVariants as body
use Rattle.ck_journal.specs.declared.replies.Reply.{Reply}
use Rattle.ck_journal.specs.Histories.{History, ◌◁◌, done, is_ok}
use Rattle.ck_journal.specs.Effects.{effects_of, effects}
use Rattle.ck_journal.specs.OperationCalls.{on_operation, Step, initialize, single_part, add_piece}
use Rattle.ck_journal.specs.OperationCalls.{finish, OperationStep, operation_step, step_in}
use Rattle.ck_journal.specs.OperationCalls.{same_kind, piece_in}
use Rattle.ck_journal.specs.Operations.{starts, ends, finishes, cancels, piece_of, ends_by}
use Rattle.ck_journal.specs.Operations.{is_initialization, leaves_active, is_data_len_range}
use Rattle.ck_journal.specs.Operations.{names_kind, is_updated, pieces_in, message_in}
use Rattle.std.specs.List.{concat}
use Rattle.std.proofs.lemmas.Bool.{true≢false}
use Rattle.std.proofs.lemmas.Option.{cond_some}
use Rattle.std.proofs.Math.Bool.{or-false}
use Rattle.std.proofs.Math.Dec.{eqb-suc-zero}
use Rattle.ck_journal.specs.Pins.{about, is_about, is_user}
use Rattle.ck_journal.specs.Sessions.{ends_operations}
use Rattle.ck_journal.proofs.OperationMoves.{starts_none, ends_none, adds_none, starts_no_step}
use Rattle.ck_journal.proofs.OperationMoves.{adds_no_step, finishes_no_step}
use Rattle.ck_operations.specs.Agreement.{OperationsState, OperationsAgree}
use Rattle.ck_operations.specs.Moves.{Stay, Start, Add, End, Does, OnlyIn, OnlyInSession}
use Rattle.ck_operations.specs.Moves.{OnlyNamed, InAll}
use Rattle.ck_operations.proofs.Moves.{operations-left}
use Rattle.ck_parts.specs.Changes.{wrong_try_change, end_if_too_long, refused_by}
use Rattle.ck_parts.specs.Changes.{refused_step, effect_by, change_of}
use Rattle.ck_parts.specs.declared.changes.Change.TheVariants as change

-- ---- a call that makes a step on an operation

-- it is about nobody's PIN, and does only its step
pub record IsStepAlone (h : History) (c : Call) : Type 0 where
  pub sessions : (effects_of (Some c)).sessions ≡ false
  pub objects : (effects_of (Some c)).objects ≡ false
  pub searches : (effects_of (Some c)).searches ≡ false
  pub unclosed : (s : ℕ) → ends_operations (Some c) s ≡ false
  pub uncancelled : (k : OperationKind) (s : ℕ) → cancels (Some c) k s ≡ false
  pub about : about h (Some c) ≡ None

pub step-alone : (h : History) (c : Call) (o : OperationStep) → operation_step c ≡ Some o
    → IsStepAlone h c
step-alone h (call.InitToken pin) o e = cc
step-alone h other o e = first_of (cc, search rules)

-- a call that changes nothing makes no step either
pub reading-alone : (h : History) (c : Call) (b : Body) → change.Nothing ≡ change_of h c b
    → IsStepAlone h c × (operation_step c ≡ None)
reading-alone h (call.InitToken pin) b is = cc
reading-alone h other b is = first_of (cc, search rules)

-- what an entry is of: its call and the reply's code and body
abbrev pub entry : ℕ → Call → Rv → Body → Entry
entry n c v b = record { caller = n; call = c; reply = record { rv = v; body = b } }

-- the call that was answered OK, if it was
abbrev done_of : Call → Rv → Option Call
done_of c v = cond (is_ok v) (Some c) None

-- a fact of a call and of none is one of the call that was answered OK
pub of-done : {A : Type 0} (f : Option Call → A) (a : A) (c : Call) (v : Rv)
    → f (Some c) ≡ a → f None ≡ a → f (done_of c v) ≡ a
of-done f a c rv.Ok one none = one
of-done f a c (rv.Error code) one none = none

-- ---- a step does what it says to one operation, and nothing to any other

module _ (h : History) (n : ℕ) (c : Call) (v : Rv) (b : Body) (kind : OperationKind) (session : ℕ)
    (x : Step)
    (is : operation_step c ≡ on_operation kind session x) where
  abbrev reply : Reply
  reply = record { rv = v; body = b }

  quiet : IsStepAlone h c
  quiet = step-alone h c (record { kind = kind; session = session; step = x }) is

  abbrev here : OperationKind → ℕ → Bool
  here k s = same_kind kind k && session == s

  module _ (k : OperationKind) (s : ℕ) where
    step-here : (t : Bool) → here k s ≡ t → step_in (operation_step c) k s ≡ cond t (Some x) None
    step-here t e = ap (λ o. step_in o k s) is ∙ ap (λ t. cond t (Some x) None) e

    ends-here : (t : Bool) → here k s ≡ t → ends k (entry n c v b) s
        ≡ ends_by (cond t (Some x) None) reply
    ends-here t e =
        ap (λ a. a || cancels (done_of c v) k s || finishes c k reply s)
        (of-done (λ d. ends_operations d s) false c v (quiet.unclosed s) refl)
        ∙ ap (λ a. a || finishes c k reply s)
        (of-done (λ d. cancels d k s) false c v (quiet.uncancelled k s) refl)
        ∙ ap (λ o. ends_by o reply) (step-here t e)

    starts-here : (t : Bool) → here k s ≡ t → is_ok v ≡ true
        → starts (done_of c v) k s ≡ is_initialization (cond t (Some x) None)
    starts-here t e ok =
        ap (λ a. starts (cond a (Some c) None) k s) ok ∙ ap is_initialization (step-here t e)

    adds-here : (t : Bool) → here k s ≡ t → is_ok v ≡ true
        → piece_of (done_of c v) k s ≡ piece_in (cond t (Some x) None)
    adds-here t e ok = ap (λ a. piece_of (cond a (Some c) None) k s) ok
        ∙ ap piece_in (step-here t e)

  -- a start
  pub does-start : is_ok v ≡ true → x ≡ initialize → OnlyIn kind session Start (entry n c v b)
  does-start ok first k s = cases (here k s) refl
    where
      cases : (t : Bool) → here k s ≡ t → Does (cond t Start Stay) (entry n c v b) k s
      cases true e = starts-here k s true e ok ∙ ap (λ x. is_initialization (Some x)) first
      cases false e = (starts-here k s false e ok, ends-here k s false e, adds-here k s false e ok)

  -- a piece
  pub does-add : (bytes : List ℕ) → is_ok v ≡ true → x ≡ add_piece bytes
      → OnlyIn kind session (Add bytes) (entry n c v b)
  does-add bytes ok adds k s = cases (here k s) refl
    where
      short : (w : Rv) → is_ok w ≡ true → is_data_len_range w ≡ false
      short rv.Ok e = refl
      short (rv.Error code) e = cc

      cases : (t : Bool) → here k s ≡ t → Does (cond t (Add bytes) Stay) (entry n c v b) k s
      cases true e = (
        starts-here k s true e ok ∙ ap (λ x. is_initialization (Some x)) adds,
        ends-here k s true e ∙ ap (λ x. ends_by (Some x) reply) adds ∙ short v ok,
        adds-here k s true e ok ∙ ap (λ x. piece_in (Some x)) adds,
      )
      cases false e = (starts-here k s false e ok, ends-here k s false e, adds-here k s false e ok)

  -- the end, or nothing
  pub does-end : (last : Bool) → ends_by (Some x) reply ≡ last
      → ((k : OperationKind) (s : ℕ) → starts (done_of c v) k s ≡ false)
      → ((k : OperationKind) (s : ℕ) → piece_of (done_of c v) k s ≡ [])
      → (k : OperationKind) (s : ℕ) → Does (cond (last && here k s) End Stay) (entry n c v b) k s
  does-end last by none nowhere k s = cases last (here k s) by refl
    where
      cases : (last t : Bool) → ends_by (Some x) reply ≡ last → here k s ≡ t
          → Does (cond (last && t) End Stay) (entry n c v b) k s
      cases true true by e = (none k s, ends-here k s true e ∙ by)
      cases true false by e = (none k s, ends-here k s false e, nowhere k s)
      cases false true by e = (none k s, ends-here k s true e ∙ by, nowhere k s)
      cases false false by e = (none k s, ends-here k s false e, nowhere k s)

-- ---- a call that makes no step

-- it leaves operations as they are where it neither closes nor cancels any
pub no-step-stays : (n : ℕ) (c : Call) (v : Rv) (b : Body) → operation_step c ≡ None
    → ((s : ℕ) → ends_operations (done_of c v) s ≡ false)
    → ((k : OperationKind) (s : ℕ) → cancels (done_of c v) k s ≡ false) → InAll Stay (entry n c v b)
no-step-stays n c v b idle unclosed uncancelled k s = (
  starts_no_step c idle k s (is_ok v),
  ap (λ a. a || cancels (done_of c v) k s || finishes c k (record { rv = v; body = b }) s)
      (unclosed s)
      ∙ ap (λ a. a || finishes c k (record { rv = v; body = b }) s) (uncancelled k s)
      ∙ finishes_no_step c idle k s (record { rv = v; body = b }),
  adds_no_step c idle k s (is_ok v),
)

module _ (e : Entry) (c : Call) (d : done e ≡ Some c) where
  called : e.call ≡ c
  called = (cond_some (is_ok e.reply.rv) e.call c d).1

  -- one that leaves operations as they are
  pub operations-kept : (h : History) (o : OperationsState) → (effects_of (Some c)).operations
      ≡ false
      → operation_step c ≡ None → OperationsAgree h o → OperationsAgree (e ◁ h) o
  operations-kept h o idle quiet agree =
      let l : (effects e).operations ≡ false =
      ap (λ d. (effects_of d).operations || is_some (operation_step e.call)) d
      ∙ ap (λ t. t || is_some (operation_step e.call)) idle
      ∙ ap (λ c. is_some (operation_step c)) called ∙ ap is_some quiet in
      operations-left h o agree e
      (λ k s. (starts_none e l k s, ends_none e l k s, adds_none e l k s))

  -- one that ends operations, and makes no step on one
  ends-done : operation_step c ≡ None → (k : OperationKind) (s : ℕ) (t : Bool)
      → (ends_operations (Some c) s || cancels (Some c) k s) ≡ t → Does (cond t End Stay) e k s
  ends-done idle k s t ended = cases t ended
    where
      quiet : operation_step e.call ≡ None
      quiet = ap operation_step called ∙ idle

      now : ends k e s ≡ (ends_operations (Some c) s || cancels (Some c) k s)
      now =
          ap (λ x. ends_operations x s || cancels x k s || finishes e.call k e.reply s) d
          ∙ ap (λ t. ends_operations (Some c) s || cancels (Some c) k s || t)
          (finishes_no_step e.call quiet k s e.reply)
          ∙ or-false (ends_operations (Some c) s || cancels (Some c) k s)

      cases : (t : Bool) → (ends_operations (Some c) s || cancels (Some c) k s) ≡ t
          → Does (cond t End Stay) e k s
      cases true ended = (starts_no_step e.call quiet k s (is_ok e.reply.rv), now ∙ ended)
      cases false ended = (
        starts_no_step e.call quiet k s (is_ok e.reply.rv),
        now ∙ ended,
        adds_no_step e.call quiet k s (is_ok e.reply.rv),
      )

pub closed-one : (e : Entry) (session : ℕ) → done e ≡ Some (call.CloseSession session)
    → OnlyInSession session End e
closed-one e session d k s =
    ends-done e (call.CloseSession session) d refl k s (session == s)
    (or-false (session == s))

pub closed-all : (e : Entry) → done e ≡ Some call.CloseAllSessions → InAll End e
closed-all e d k s = ends-done e call.CloseAllSessions d refl k s true refl

pub logged-out : (e : Entry) (session : ℕ) → done e ≡ Some (call.Logout session) → InAll End e
logged-out e session d k s = ends-done e (call.Logout session) d refl k s true refl

pub cancelled : (e : Entry) (session flags : ℕ) → done e ≡ Some (call.SessionCancel session flags)
    → OnlyNamed session flags End e
cancelled e session flags d k s =
    ends-done e (call.SessionCancel session flags) d refl k s
    (session == s && names_kind flags k) refl

-- ---- which step a change is of

wrong_try_change-finishes : (code : RvError) (who : Option UserType) (k : OperationKind)
    (session : ℕ)
    (last : Bool) → change.FinishOperation k session last ≡ wrong_try_change code who → ⊥
wrong_try_change-finishes rv_error.PinIncorrect None k session last is = cc
wrong_try_change-finishes rv_error.PinIncorrect (Some u) k session last is = cc
wrong_try_change-finishes other who k session last is = cc

-- a refusal's code says whether it leaves an operation active, whatever its body
any_body : (code : RvError) (b given : Body)
    → leaves_active (rv.Error code) b ≡ leaves_active (rv.Error code) given
any_body rv_error.BufferTooSmall b given = refl
any_body other b given = refl

-- a call about nobody is no wrong try of anybody's PIN
pub nobody-tried : (h : History) (wrong : Bool) (c : Call) → about h (Some c) ≡ None
    → (u : UserType) → is_about u h (cond wrong (Some c) None) ≡ false
nobody-tried h true c e u = ap (is_user u) e
nobody-tried h false c e u = refl

-- the call makes a step on the operation that the reply ends or leaves, starts none and adds
-- nothing
pub record IsFinish (h : History) (k : OperationKind) (session : ℕ) (last : Bool) (c : Call)
    (v : Rv) (b : Body)
    : Type 0 where
  pub step : Step
  pub is : operation_step c ≡ on_operation k session step
  pub ending : ends_by (Some step) (record { rv = v; body = b }) ≡ last
  pub none : (k : OperationKind) (s : ℕ) → starts (done_of c v) k s ≡ false
  pub nowhere : (k : OperationKind) (s : ℕ) → piece_of (done_of c v) k s ≡ []

finish-injected : (k l : OperationKind) (session x : ℕ) (last t : Bool)
    → change.FinishOperation k session last ≡ change.FinishOperation l x t
    → (k ≡ l) × (session ≡ x) × (last ≡ t)
finish-injected k l session x last t is = (cc, cc, cc)

module _ (h : History) (c : Call) (b : Body) (k : OperationKind) (session : ℕ) (last : Bool) where
  step-same : (l : OperationKind) (y : ℕ) (x : Step) → operation_step c ≡ on_operation l y x → k ≡ l
      → session ≡ y
      → operation_step c ≡ on_operation k session x
  step-same l y x e same there =
      e ∙ ap (λ l. on_operation l y x) (sym same) ∙ ap (λ y. on_operation k y x) (sym there)

  -- a call that was answered OK
  from-ok : (l : OperationKind) (y : ℕ) (x : Step) → operation_step c ≡ on_operation l y x
      → is_initialization (Some x) ≡ false → piece_in (Some x) ≡ []
      → change.FinishOperation k session last
      ≡ change.FinishOperation l y (ends_by (Some x) (record { rv = rv.Ok; body = b }))
      → IsFinish h k session last c rv.Ok b
  from-ok l y x e no_start no_piece is =
      let i = finish-injected k l session y last _ is in
      record {
        step = x;
        is = step-same l y x e i.0 i.1;
        ending = sym i.2;
        none = λ m s. ap (λ o. is_initialization (step_in o m s)) e
            ∙ nothing m s (same_kind l m && y == s);
        nowhere = λ m s. ap (λ o. piece_in (step_in o m s)) e ∙ no_bytes (same_kind l m && y == s);
      }
    where
      nothing : (m : OperationKind) (s : ℕ) (t : Bool) → is_initialization (cond t (Some x) None)
          ≡ false
      nothing m s true = no_start
      nothing m s false = refl

      no_bytes : (t : Bool) → piece_in (cond t (Some x) None) ≡ []
      no_bytes true = no_piece
      no_bytes false = refl

  -- a call that was refused
  from-refused : (code : RvError) (l : OperationKind) (y : ℕ) (x : Step)
      → operation_step c ≡ on_operation l y x
      → change.FinishOperation k session last ≡ refused_step l y x code
      → IsFinish h k session last c (rv.Error code) b
  from-refused code l y initialize e is = cc
  from-refused rv_error.DataLenRange l y (add_piece bytes) e is =
      let i = finish-injected k l session y last true is in
      record {
        step = add_piece bytes;
        is = step-same l y (add_piece bytes) e i.0 i.1;
        ending = sym i.2;
        none = λ k s. refl;
        nowhere = λ k s. refl;
      }
  from-refused code l y (add_piece bytes) e is = cc
  from-refused code l y (single_part bytes) e is =
      let i = finish-injected k l session y last _ is in
      record {
        step = single_part bytes;
        is = step-same l y (single_part bytes) e i.0 i.1;
        ending = ap not (any_body code b body.Empty) ∙ sym i.2;
        none = λ k s. refl;
        nowhere = λ k s. refl;
      }
  from-refused code l y finish e is =
      let i = finish-injected k l session y last _ is in
      record {
        step = finish;
        is = step-same l y finish e i.0 i.1;
        ending = ap not (any_body code b body.Empty) ∙ sym i.2;
        none = λ k s. refl;
        nowhere = λ k s. refl;
      }

  from-any : (code : RvError) (who : Option UserType) (o : Option OperationStep)
      → operation_step c ≡ o
      → change.FinishOperation k session last ≡ refused_by o code who
      → IsFinish h k session last c (rv.Error code) b
  from-any code who None e is = absurd (wrong_try_change-finishes code who k session last is)
  from-any code who (Some o) e is = from-refused code o.kind o.session o.step e is

pub finished-is : (h : History) (c : Call) (v : Rv) (b : Body) (k : OperationKind) (session : ℕ)
    (last : Bool)
    → change.FinishOperation k session last ≡ effect_by h c v b → IsFinish h k session last c v b
finished-is h (call.Digest x bytes room) rv.Ok b k session last is =
    from-ok h (call.Digest x bytes room) b k session last kind.Digest x
    (single_part bytes) refl refl refl is
finished-is h (call.DigestFinal x room) rv.Ok b k session last is =
    from-ok h (call.DigestFinal x room) b k session last kind.Digest x finish refl refl refl is
finished-is h (call.Sign x bytes room) rv.Ok b k session last is =
    from-ok h (call.Sign x bytes room) b k session last kind.Sign x
    (single_part bytes) refl refl refl is
finished-is h (call.SignFinal x room) rv.Ok b k session last is =
    from-ok h (call.SignFinal x room) b k session last kind.Sign x finish refl refl refl is
finished-is h (call.Verify x bytes signature) rv.Ok b k session last is =
    from-ok h (call.Verify x bytes signature) b k session last kind.Verify x
    (single_part bytes) refl refl refl is
finished-is h (call.VerifyFinal x signature) rv.Ok b k session last is =
    from-ok h (call.VerifyFinal x signature) b k session last kind.Verify x finish refl refl refl is
finished-is h other rv.Ok b k session last is = cc
finished-is h c (rv.Error code) b k session last is =
    from-any h c b k session last code (about h (Some c)) (operation_step c) refl is

-- what it ends is that one operation, and nothing where it doesn't end it
pub finish-does : (h : History) (n : ℕ) (c : Call) (v : Rv) (b : Body) (k : OperationKind)
    (session : ℕ)
    (last : Bool) → IsFinish h k session last c v b → (l : OperationKind) (s : ℕ)
    → Does (cond (last && (same_kind k l && session == s)) End Stay) (entry n c v b) l s
finish-does h n c v b k session last f =
    does-end h n c v b k session f.step f.is last f.ending f.none f.nowhere

-- ---- a reply that leaves operations as they are

-- a step is no try of a PIN
pub step-no_try : (u : UserType) (k : OperationKind) (session : ℕ) (x : Step) (code : RvError)
    → change.WrongTry u ≡ refused_step k session x code → ⊥
step-no_try u k session initialize code is = cc
step-no_try u k session (add_piece bytes) rv_error.DataLenRange is = cc
step-no_try u k session (add_piece bytes) code is = cc
step-no_try u k session (single_part bytes) code is = cc
step-no_try u k session finish code is = cc

module _ (h : History) (n : ℕ) (c : Call) (b : Body) (code : RvError) where
  quiet-step : (l : OperationKind) (y : ℕ) (x : Step) → operation_step c ≡ on_operation l y x
      → ends_by (Some x) (record { rv = rv.Error code; body = b }) ≡ false
      → InAll Stay (entry n c (rv.Error code) b)
  quiet-step l y x e by k s =
      does-end h n c (rv.Error code) b l y x e false by (λ k s. refl) (λ k s. refl) k s

  quiet-refused : (l : OperationKind) (y : ℕ) (x : Step) → operation_step c ≡ on_operation l y x
      → change.Nothing ≡ refused_step l y x code → InAll Stay (entry n c (rv.Error code) b)
  quiet-refused l y initialize e is = quiet-step l y initialize e refl
  quiet-refused l y (add_piece bytes) e is = quiet-step l y (add_piece bytes) e (other code is)
    where
      other : (code : RvError) → change.Nothing ≡ end_if_too_long l y code
          → is_data_len_range (rv.Error code) ≡ false
      other rv_error.DataLenRange is = cc
      other code is = refl
  quiet-refused l y (single_part bytes) e is = cc
  quiet-refused l y finish e is = cc

  nothing-refused : (o : Option OperationStep) → operation_step c ≡ o
      → change.Nothing ≡ refused_by o code (about h (Some c))
      → InAll Stay (entry n c (rv.Error code) b)
  nothing-refused None e is = no-step-stays n c (rv.Error code) b e (λ s. refl) (λ k s. refl)
  nothing-refused (Some o) e is = quiet-refused o.kind o.session o.step e is

  -- a wrong try makes no step
  tried-refused : (u : UserType) (o : Option OperationStep) → operation_step c ≡ o
      → change.WrongTry u ≡ refused_by o code (about h (Some c))
      → InAll Stay (entry n c (rv.Error code) b)
  tried-refused u None e is = no-step-stays n c (rv.Error code) b e (λ s. refl) (λ k s. refl)
  tried-refused u (Some o) e is = absurd (step-no_try u o.kind o.session o.step code is)

pub nothing-stays : (h : History) (n : ℕ) (c : Call) (v : Rv) (b : Body)
    → change.Nothing ≡ effect_by h c v b
    → InAll Stay (entry n c v b)
nothing-stays h n c (rv.Error code) b is = nothing-refused h n c b code (operation_step c) refl is
nothing-stays h n c rv.Ok b is =
    let reads = reading-alone h c b is in
    no-step-stays n c rv.Ok b reads.1 reads.0.unclosed reads.0.uncancelled

pub tried-stays : (h : History) (n : ℕ) (c : Call) (v : Rv) (b : Body) (u : UserType)
    → change.WrongTry u ≡ effect_by h c v b → InAll Stay (entry n c v b)
tried-stays h n c (rv.Error code) b u is = tried-refused h n c b code u (operation_step c) refl is
tried-stays h n c rv.Ok b u is = absurd (no-try_done c is)
  where
    no-try_done : (c : Call) → change.WrongTry u ≡ change_of h c b → ⊥
    no-try_done (call.InitToken pin) is = cc
    no-try_done other is = cc

-- ---- an operation that has had no update

no_pieces : (pieces : List (List ℕ)) → not (length pieces == 0) ≡ false → concat pieces ≡ []
no_pieces [] e = refl
no_pieces (piece ∷ pieces) e = absurd (true≢false (sym (ap not (eqb-suc-zero (length pieces))) ∙ e))

-- has no message yet
pub unused-message : (k : OperationKind) (h : History) (s : ℕ) → is_updated k h s ≡ false
    → message_in k h s ≡ []
unused-message k h s e = no_pieces (pieces_in k h s) e
