use Rattle.std.proofs.Common.{◌≡◌, [], sym, ap, ◌∙◌, refl, Some, subst}
use Rattle.std.specs.Prelude.{option_map, option_and_then, unwrap_or}
use Rattle.std.proofs.lemmas.Option.{cond_some}
use Rattle.ck_objects.specs.Records.{key_value}
use Rattle.ck_mac.specs.Computations.{digest_by}
use Rattle.ck_journal.specs.Histories.{is_ok}
use Rattle.ck_journal.specs.Objects.{object_named, object_at, attributes_or_empty}
use Rattle.ck_journal.specs.OperationCalls.{initialize, add_piece, operation_step}
use Rattle.ck_journal.specs.Works.{taken_bytes}
use Rattle.ck_journal.specs.Operations.{started_computation, init_key}
use Rattle.ck_journal.specs.declared.operations.OperationKind.TheVariants as kind
use Rattle.ck_journal.proofs.LegalLemmas.{passed-done, is_searching-next}
use Rattle.ck_journal.proofs.WorkLemmas.{ready-for}
use Rattle.ck_operations.specs.Moves.{Add, OnlyIn}
use Rattle.ck_operations.proofs.Moves.{operations-left}
use Rattle.ck_parts.specs.Agreement.{IsCounted}
use Rattle.ck_parts.specs.declared.changes.Change.TheVariants as change
use Rattle.ck_parts.proofs.Counts.{started-injected}
use Rattle.ck_parts.proofs.OperationMoves.{operations-kept, closed-one, closed-all, logged-out}
use Rattle.ck_parts.proofs.OperationMoves.{cancelled, does-start, does-add, nothing-stays}
use Rattle.ck_parts.proofs.OperationMoves.{tried-stays}
use Rattle.ck_parts.proofs.Inversions.{of-effect}
use Rattle.ck_parts.proofs.PartMoves.{sessions-only, objects-only, operations-only}
use Rattle.ck_parts.proofs.PartMoves.{objects-created, step-only, finish-only}
use Rattle.ck_parts.proofs.PartMoves.{sessions-unchanged, objects-unchanged, tried, objects-tried}
use Rattle.ck_parts.proofs.PartMoves.{login-passed, change-passed, destruction-passed, state-passed}
use Rattle.ck_parts.proofs.PartMoves.{digest-passed, hmac-passed, hmac-is}
use Rattle.ck_parts.proofs.parts.Parts.apply.Goals as goal

pub returns-in-Nothing : goal.returns-in-Nothing
returns-in-Nothing c = record {
  agree = λ limits h e legal is called now ready agree.
      let is = sym c.in-Nothing.is ∙ is in
      record {
        sessions = sessions-unchanged h e _ is agree.sessions;
        objects = objects-unchanged h e _ is agree.objects;
        operations =
            operations-left h _ agree.operations e
            (nothing-stays h e.caller e.call e.reply.rv e.reply.body is);
      };
}

pub returns-in-WrongTry : goal.returns-in-WrongTry
returns-in-WrongTry c = record {
  agree = λ limits h e legal is called now ready agree.
      let t = tried h e c.in-WrongTry.user (sym c.in-WrongTry.is ∙ is) in
      record {
        sessions = c.count_wrong_try.ensures.agree h e t.0 t.1 agree.sessions;
        objects = objects-tried h e _ t.0 agree.objects;
        operations = operations-left h _ agree.operations e
            (tried-stays h e.caller e.call e.reply.rv e.reply.body c.in-WrongTry.user
            (sym c.in-WrongTry.is ∙ is));
      };
}

pub returns-in-InitToken : goal.returns-in-InitToken
returns-in-InitToken c = record {
  agree = λ limits h e legal is called now ready agree.
      let made = of-effect h e (change.InitToken c.in-InitToken.pin)
      (sym c.in-InitToken.is ∙ is) refl in
      let d = made.0 ∙ ap Some made.1 in
      record {
        sessions = c.init_token.ensures.agree h e d agree.sessions;
        objects = c.clear.ensures.agree h e _ d agree.objects;
        operations = operations-kept e _ d h _ refl refl agree.operations;
      };
}

pub returns-in-InitPin : goal.returns-in-InitPin
returns-in-InitPin c = record {
  agree = λ limits h e legal is called now ready agree.
      let made = of-effect h e (change.InitPin c.in-InitPin.pin) (sym c.in-InitPin.is ∙ is) refl in
      let of = made.1 in
      let d = made.0 ∙ ap Some of.1 in
      sessions-only h e _ d _ agree refl refl refl _
      (c.init_pin.ensures.agree h e of.0 d agree.sessions);
}

pub returns-in-SetPin : goal.returns-in-SetPin
returns-in-SetPin c = record {
  agree = λ limits h e legal is called now ready agree.
      let made = of-effect h e (change.SetPin c.in-SetPin.owner c.in-SetPin.pin)
      (sym c.in-SetPin.is ∙ is) refl in
      let of = made.1 in
      let d = made.0 ∙ ap Some of.2 in
      sessions-only h e _ d _ agree refl refl refl _
      (c.set_pin.ensures.agree h e of.0 of.1 d of.3 agree.sessions);
}

pub returns-in-OpenSession : goal.returns-in-OpenSession
returns-in-OpenSession c = record {
  agree = λ limits h e legal is called now ready agree.
      let made = of-effect h e (change.OpenSession c.in-OpenSession.flags)
      (sym c.in-OpenSession.is ∙ is) refl in
      let d = made.0 ∙ ap Some made.1 in
      sessions-only h e _ d _ agree refl refl refl _
      (c.open_session.ensures.agree h e d (is_searching-next limits h legal.1) agree.sessions);
}

pub returns-in-CloseSession : goal.returns-in-CloseSession
returns-in-CloseSession c = record {
  agree = λ limits h e legal is called now ready agree.
      let made = of-effect h e (change.CloseSession c.in-CloseSession.session)
      (sym c.in-CloseSession.is ∙ is) refl in
      let d = made.0 ∙ ap Some made.1 in
      record {
        sessions = c.close.ensures.agree h e d agree.sessions;
        objects = c.end_session.ensures.agree h e d agree.objects;
        operations =
            c.end_session-in-CloseSession.ensures.agree h e
            (closed-one e c.in-CloseSession.session d) agree.operations;
      };
}

pub returns-in-CloseAllSessions : goal.returns-in-CloseAllSessions
returns-in-CloseAllSessions c = record {
  agree = λ limits h e legal is called now ready agree.
      let made = of-effect h e change.CloseAllSessions (sym c.in-CloseAllSessions.is ∙ is) refl in
      let d = made.0 ∙ ap Some made.1 in
      record {
        sessions = c.close_all.ensures.agree h e d agree.sessions;
        objects = c.end_all_sessions.ensures.agree h e d agree.objects;
        operations = c.end_all.ensures.agree h e (closed-all e d) agree.operations;
      };
}

pub returns-in-LogIn : goal.returns-in-LogIn
returns-in-LogIn c = record {
  agree = λ limits h e legal is called now ready agree.
      let made = of-effect h e (change.LogIn c.in-LogIn.user) (sym c.in-LogIn.is ∙ is) refl in
      let of = made.1 in
      let d = made.0 ∙ ap Some of.3 in
      let p = login-passed limits h of.0 of.1 of.2 (passed-done limits e h legal _ d) in
      sessions-only h e _ d _ agree refl refl refl _
      (c.log_in.ensures.agree h e of.0 of.1 of.2 d p.0
      (p.1 ∙ ap Some (sym of.4)) agree.sessions);
}

pub returns-in-LogOut : goal.returns-in-LogOut
returns-in-LogOut c = record {
  agree = λ limits h e legal is called now ready agree.
      let made = of-effect h e change.LogOut (sym c.in-LogOut.is ∙ is) refl in
      let of = made.1 in
      let d = made.0 ∙ ap Some of.1 in
      record {
        sessions = c.log_out.ensures.agree h e of.0 d agree.sessions;
        objects = c.end_private.ensures.agree h e of.0 d agree.objects;
        operations = c.end_all-in-LogOut.ensures.agree h e (logged-out e of.0 d) agree.operations;
      };
}

pub returns-in-CreateObject : goal.returns-in-CreateObject
returns-in-CreateObject c = record {
  agree = λ limits h e legal is called now ready agree.
      let made =
      of-effect h e (change.CreateObject c.in-CreateObject.session c.in-CreateObject.attributes)
      (sym c.in-CreateObject.is ∙ is) refl in
      let of = made.1 in
      objects-created h e e.call made.0 _ agree of.0 _
      (c.create_object.ensures h e e.call made.0 of.0 of.1 of.2 agree.objects);
}

pub change-requires : goal.change-requires
change-requires c =
    subst (λ made. IsCounted c.args.self.now made) c.in-SetAttributes.is c.requires.counted

pub returns-in-SetAttributes : goal.returns-in-SetAttributes
returns-in-SetAttributes c = record {
  agree = λ limits h e legal is called now ready agree.
      let number = c.in-SetAttributes.number in
      let values = c.in-SetAttributes.values in
      let made = of-effect h e (change.SetAttributes number values)
      (sym c.in-SetAttributes.is ∙ is) refl in
      let of = made.1 in
      let d = made.0 ∙ ap Some of.2 in
      let p = change-passed limits h of.0 of.1 values (passed-done limits e h legal _ d) in
      objects-only h e _ d _ agree refl refl refl refl _
      (c.change.ensures.agree h e of.0 of.1 d (p.0 ∙ ap Some (sym of.3)) p.1 agree.objects);
}

pub returns-in-SetKeyState : goal.returns-in-SetKeyState
returns-in-SetKeyState c = record {
  agree = λ limits h e legal is called now ready agree.
      let number = c.in-SetKeyState.number in
      let state = c.in-SetKeyState.state in
      let made =
      of-effect h e (change.SetKeyState number state) (sym c.in-SetKeyState.is ∙ is) refl in
      let of = made.1 in
      let d = made.0 ∙ ap Some of.3 in
      let p = state-passed limits h of.0 of.1 of.2 (passed-done limits e h legal _ d) in
      objects-only h e _ d _ agree refl refl refl refl _
      (c.set_state.ensures.agree h e of.0 of.1 of.2 d (p.1 ∙ ap Some (sym of.5))
      (p.0 ∙ ap Some (sym of.4)) agree.objects);
}

pub returns-in-DestroyObject : goal.returns-in-DestroyObject
returns-in-DestroyObject c = record {
  agree = λ limits h e legal is called now ready agree.
      let made = of-effect h e (change.DestroyObject c.in-DestroyObject.number)
      (sym c.in-DestroyObject.is ∙ is) refl in
      let of = made.1 in
      let d = made.0 ∙ ap Some of.2 in
      let p = destruction-passed limits h of.0 of.1 (passed-done limits e h legal _ d) in
      objects-only h e _ d _ agree refl refl refl refl _
      (c.destroy.ensures.agree h e of.0 of.1 d (p ∙ ap Some (sym of.3)) agree.objects);
}

pub returns-in-SetSearch : goal.returns-in-SetSearch
returns-in-SetSearch c = record {
  agree = λ limits h e legal is called now ready agree.
      let session = c.in-SetSearch.session in
      let found = c.in-SetSearch.found in
      let made = of-effect h e (change.SetSearch session found) (sym c.in-SetSearch.is ∙ is) refl in
      let sets = made.1 in
      sessions-only h e e.call made.0 _ agree sets.objects sets.operations sets.step _
      (c.set_search.ensures.agree h e e.call made.0 sets agree.sessions);
}

pub returns-in-AdvanceSearch : goal.returns-in-AdvanceSearch
returns-in-AdvanceSearch c = record {
  agree = λ limits h e legal is called now ready agree.
      let made =
      of-effect h e (change.AdvanceSearch c.in-AdvanceSearch.session c.in-AdvanceSearch.number)
      (sym c.in-AdvanceSearch.is ∙ is) refl in
      let of = made.1 in
      let d = made.0 ∙ ap Some of.1 in
      sessions-only h e _ d _ agree refl refl refl _
      (c.advance_search.ensures.agree h e of.0 d of.2 agree.sessions);
}

pub returns-in-StartDigest : goal.returns-in-StartDigest
returns-in-StartDigest c = record {
  agree = λ limits h e legal is called now ready agree.
      let session = c.in-StartDigest.session in
      let hash = c.in-StartDigest.hash in
      let made =
      of-effect h e (change.StartDigest session hash) (sym c.in-StartDigest.is ∙ is) refl in
      let of = made.1 in
      let d = made.0 ∙ ap Some of.1 in
      let passed = digest-passed limits h session of.0 (passed-done limits e h legal _ d) in
      operations-only h e _ d _ agree refl refl refl _
      (c.start_digest.ensures h e now
      (record {
        computation =
            ap (started_computation h) d
            ∙ ap (option_map digest_by) (passed.1 ∙ ap Some (sym of.2));
        key = ap (λ d. option_and_then (object_named h) (init_key d)) d;
      })
      (does-start h e.caller e.call e.reply.rv e.reply.body kind.Digest session initialize
      (ap operation_step of.1) (cond_some (is_ok e.reply.rv) e.call _ d).0 refl) passed.0
      agree.operations);
}

pub returns-in-StartHmac : goal.returns-in-StartHmac
returns-in-StartHmac c = record {
  agree = λ limits h e legal is called now ready agree.
      let k = c.in-StartHmac.kind in
      let session = c.in-StartHmac.session in
      let hash = c.in-StartHmac.hash in
      let number = c.in-StartHmac.key in
      let len = c.in-StartHmac.len in
      let made = of-effect h e (change.StartHmac k session hash number len)
      (sym c.in-StartHmac.is ∙ is) refl in
      let of = made.1 limits in
      let starts = of.3 in
      let passed =
      hmac-passed k h session of.0 of.1
      (sym starts.error ∙ passed-done limits e h legal e.call made.0) in
      let same = started-injected k session hash number len _ _ _ of.2 in
      let named : object_named h of.1 ≡ Some number = passed.3 ∙ ap Some (sym same.1) in
      let key = key_value (unwrap_or (object_at h number) []) in
      let value : key ≡ key_value (attributes_or_empty h of.1) =
      ap (λ o. key_value (unwrap_or (option_and_then (object_at h) o) [])) (sym named) in
      rw c.start_hmac.ensures.others (step-only h e _ starts.step _ agree _
      (c.start_hmac.ensures.agree h e now agree.objects
      (record {
        computation =
            ap (started_computation h) made.0 ∙ starts.computation
            ∙ hmac-is hash key len of.0 _ (passed.1 ∙ ap Some (sym same.0)) value
            (passed.2 ∙ ap Some (sym same.2));
        key = ap (λ d. option_and_then (object_named h) (init_key d)) made.0
            ∙ ap (option_and_then (object_named h)) starts.key ∙ named;
      })
      (does-start h e.caller e.call e.reply.rv e.reply.body k session initialize starts.step
      (cond_some (is_ok e.reply.rv) e.call _ made.0).0 refl) passed.0 agree.operations));
}

pub returns-in-AddPiece : goal.returns-in-AddPiece
returns-in-AddPiece c = record {
  agree = λ limits h e legal is called now ready agree.
      let k = c.in-AddPiece.kind in
      let session = c.in-AddPiece.session in
      let made = of-effect h e (change.AddPiece k session) (sym c.in-AddPiece.is ∙ is) refl in
      let step = made.1 in
      let bytes = c.taken_bytes.ensures ∙ ap taken_bytes called in
      step-only h e _ step _ agree _
      (c.add_piece.ensures.agree h e now
      (rw bytes (ready-for h e.call k session (add_piece (taken_bytes e.call)) step _ ready))
      (subst (λ bytes. OnlyIn k session (Add bytes) e) (sym bytes)
      (does-add h e.caller e.call e.reply.rv e.reply.body k session
      (add_piece (taken_bytes e.call)) step
      (taken_bytes e.call) (cond_some (is_ok e.reply.rv) e.call _ made.0).0 refl))
      agree.operations);
}

pub returns-then-ends : goal.returns-then-ends
returns-then-ends c = record {
  agree = λ limits h e legal is called now ready agree.
      finish-only h e c.in-FinishOperation.kind c.in-FinishOperation.session _
      (sym c.in-FinishOperation.is ∙ is) _ agree _
      (λ does. c.end.ensures.agree h e (rw c.if-ends.true at does) agree.operations);
}

pub returns-else-ends : goal.returns-else-ends
returns-else-ends c = record {
  agree = λ limits h e legal is called now ready agree.
      finish-only h e c.in-FinishOperation.kind c.in-FinishOperation.session _
      (sym c.in-FinishOperation.is ∙ is) _ agree _
      (λ does. operations-left h _ agree.operations e (rw c.if-ends.false at does));
}

pub returns-in-CancelOperations : goal.returns-in-CancelOperations
returns-in-CancelOperations c = record {
  agree = λ limits h e legal is called now ready agree.
      let session = c.in-CancelOperations.session in
      let flags = c.in-CancelOperations.flags in
      let made = of-effect h e (change.CancelOperations session flags)
      (sym c.in-CancelOperations.is ∙ is) refl in
      let d = made.0 ∙ ap Some made.1 in
      operations-only h e _ d _ agree refl refl refl _
      (c.cancel.ensures.agree h e (cancelled e session flags d) agree.operations);
}
