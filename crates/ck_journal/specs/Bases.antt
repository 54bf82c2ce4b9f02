-- What a history starts from
use Rattle.std.specs.Prelude.{◌≡◌, ℕ, ◌<◌, ◌≤◌, ◌^◌, true, false, List, [], Option, None, ◌==◌}
use Rattle.std.specs.Prelude.{find, option_map, is_some}
use Rattle.std.specs.List.{All, AllPairs}
use Rattle.ck_objects.specs.Records.{is_set}
use Rattle.ck_objects.specs.declared.attributes.Attribute.TheVariants as attribute
use Rattle.ck_objects.specs.declared.items.Item.{Item}
use Rattle.ck_types.specs.declared.users.UserType.{UserType}
use Rattle.ck_types.specs.declared.users.UserType.TheVariants as user
use Rattle.ck_journal.specs.declared.bases.Base.{Base}
use Rattle.ck_journal.specs.declared.bases.KeptObject.{KeptObject}

-- the base of a new token
abbrev pub empty_base : Base
empty_base = record {
  initialized = false;
  so = None;
  user = None;
  so_tries = 0;
  user_tries = 0;
  openings = 0;
  creations = 0;
  logins = 0;
  objects = [];
}

-- the attributes of the object of this number, where the base has it
abbrev pub kept_attributes : Base → ℕ → Option (List Item)
kept_attributes b n =
    option_map (λ (kept : KeptObject). kept.attributes)
    (find (λ (kept : KeptObject). kept.number == n) b.objects)

-- this user's wrong tries
abbrev pub base_tries : UserType → Base → ℕ
base_tries user.So b = b.so_tries
base_tries user.User b = b.user_tries

-- the object's number is from 1 to the count of creations
abbrev pub IsCreated : ℕ → KeptObject → Type 0
IsCreated creations kept = (1 ≤ kept.number) × (kept.number ≤ creations)

-- a key with these attributes is sensitive where CKA_ALWAYS_SENSITIVE is true, and isn't
-- extractable where CKA_NEVER_EXTRACTABLE is true
pub record IsProtected (attributes : List Item) : Type 0 where
  pub sensitive : is_set attributes attribute.AlwaysSensitive ≡ true
      → is_set attributes attribute.Sensitive ≡ true
  pub unextractable : is_set attributes attribute.NeverExtractable ≡ true
      → is_set attributes attribute.Extractable ≡ false

-- a sound base has what every base that calls leave has: the security officer has a PIN exactly
-- where the token is initialized, no user has more than three wrong tries, the counts are in range,
-- and the objects are token objects whose numbers rise and are from 1 to the count of creations,
-- and each is protected (IsProtected)
pub record IsSound (b : Base) : Type 0 where
  pub so_pin : is_some b.so ≡ b.initialized
  pub so_tries : b.so_tries ≤ 3
  pub user_tries : b.user_tries ≤ 3
  pub openings : b.openings < 2 ^ 32
  pub creations : b.creations < 2 ^ 32
  pub logins : b.logins < 2 ^ 31
  pub rising :
      AllPairs (λ (kept : KeptObject) (later : KeptObject). kept.number < later.number) b.objects
  pub numbers : All (IsCreated b.creations) b.objects
  pub token_objects :
      All (λ (kept : KeptObject). is_set kept.attributes attribute.Token ≡ true) b.objects
  pub protected : All (λ (kept : KeptObject). IsProtected kept.attributes) b.objects
