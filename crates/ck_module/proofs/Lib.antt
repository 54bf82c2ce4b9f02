mod Lending
mod PlaceTypes
