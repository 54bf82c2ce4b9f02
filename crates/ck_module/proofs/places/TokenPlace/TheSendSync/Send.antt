use denote.Param.Send.{IsSend}
use Rattle.ck_module.specs.contracts.places.TokenPlace.{the_row}
use Rattle.ck_module.proofs.PlaceTypes.{token_place}
use Rattle.ck_module.proofs.Lending.{sends}
use Rattle.ck_foreign.proofs.modules.Module.TheSendSync.{the_send}

pub send : IsSend the_row
send = sends token_place the_send
