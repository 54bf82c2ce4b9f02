use Rattle.ck_module.specs.contracts.places.MessagePlace.as_mut.Key.{name}
use Rattle.ck_module.proofs.PlaceTypes.{message_place}
use Rattle.ck_module.proofs.Lending.{lends}
use Rattle.ck_module.proofs.places.MessagePlace.as_mut.Statement.{statement}
use Rattle.ck_module.proofs.places.MessagePlace.as_mut.Code.{unfolded}

pub as_mut_spec : {M : Type 1} → statement M
as_mut_spec 𝓤 𝓛 𝓜 𝓡 wired = lends message_place 𝓛 𝓜 𝓡 name (unfolded 𝓤 𝓛.H 𝓜 𝓡 wired)
