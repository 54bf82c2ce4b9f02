use denote.Param.Send.{IsSend}
use Rattle.ck_module.specs.contracts.places.MessagePlace.{the_row}
use Rattle.ck_module.proofs.PlaceTypes.{message_place}
use Rattle.ck_module.proofs.Lending.{sends}
use Rattle.ck_foreign.proofs.message_calls.MessageCall.TheSendSync.{the_send}

pub send : IsSend the_row
send = sends message_place the_send
