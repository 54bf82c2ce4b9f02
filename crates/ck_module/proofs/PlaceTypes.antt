-- The types of the places.
use Rattle.std.proofs.Common.{refl}
use Rattle.ck_module.specs.declared.places.TokenPlace.{TokenPlace}
use Rattle.ck_module.specs.declared.places.MessagePlace.{MessagePlace}
use Rattle.ck_module.specs.contracts.places.TokenPlace as token-place-type
use Rattle.ck_module.specs.contracts.places.MessagePlace as message-place-type
use Rattle.ck_foreign.specs.contracts.message_calls.MessageCall.{the_row as message_call_row}
use Rattle.ck_foreign.specs.contracts.modules.Module.{the_row as module_row}
use Rattle.ck_module.proofs.Lending.{PlaceType}

abbrev pub token_place : PlaceType
token_place = record {
  V = module_row;
  D = TokenPlace;
  at = λ h. h.at;
  value = λ h. h.value;
  with_value = λ h w. record h { value = w };
  at_stays = λ h w. refl;
  value_is = λ h w. refl;
  name = token-place-type.the_type.name;
  coded = token-place-type.the_type.coded;
}

abbrev pub message_place : PlaceType
message_place = record {
  V = message_call_row;
  D = MessagePlace;
  at = λ h. h.at;
  value = λ h. h.value;
  with_value = λ h w. record h { value = w };
  at_stays = λ h w. refl;
  value_is = λ h w. refl;
  name = message-place-type.the_type.name;
  coded = message-place-type.the_type.coded;
}
