-- The attributes that the token knows: their types, the forms of their values, the templates that
-- may give them and the values that an object has where its template gives none (PKCS #11 Base 3.0,
-- Objects; Current Mechanisms 3.0, Generic secret key)
use Rattle.std.specs.Prelude.{ℕ, Bool, true, false, List, [], ◌∷◌, Option, Some, None}
use Rattle.std.specs.Prelude.{◌==◌, ◌||◌, find, length, replicate, option_map}
use Rattle.ck_types.specs.Numbers.{same_bytes, number_bytes}
use Rattle.ck_objects.specs.declared.attributes.Attribute.{Attribute}
use Rattle.ck_objects.specs.declared.attributes.Attribute.TheVariants as attribute
use Rattle.ck_objects.specs.declared.attributes.Class.{Class}
use Rattle.ck_objects.specs.declared.attributes.Class.TheVariants as class
use Rattle.ck_objects.specs.declared.forms.Form.{Form}
use Rattle.ck_objects.specs.declared.forms.Form.TheVariants as form
use Rattle.ck_objects.specs.declared.attributes.Purpose.{Purpose}
use Rattle.ck_objects.specs.declared.attributes.Purpose.TheVariants as purpose

-- a flag as the bytes of an attribute (CK_BBOOL)
abbrev pub flag_bytes : Bool → List ℕ
flag_bytes false = 0 ∷ []
flag_bytes true = 1 ∷ []

-- the number of a class: CKO_DATA or CKO_SECRET_KEY
abbrev pub class_number : Class → ℕ
class_number class.Data = 0
class_number class.SecretKey = 4

-- a value in a template is of a form: a flag is one byte 0 or 1, a number 8 bytes; a class is the
-- number 0 or 4, a key type 16, and a key state 0 or 1
abbrev pub is_of_form : Form → List ℕ → Bool
is_of_form form.Flag value =
    same_bytes value (flag_bytes false) || same_bytes value (flag_bytes true)
is_of_form form.Number value = length value == 8
is_of_form form.Class value =
    same_bytes value (number_bytes 0) || same_bytes value (number_bytes 4)
is_of_form form.KeyType value = same_bytes value (number_bytes 16)
is_of_form form.KeyState value =
    same_bytes value (number_bytes 0) || same_bytes value (number_bytes 1)
is_of_form form.Bytes value = true

-- the templates that may give an attribute: those that create, generate, copy or set an object
pub record Purposes : Type 0 where
  pub create : Bool
  pub generate : Bool
  pub copy : Bool
  pub set : Bool

abbrev pub may_give : Purposes → Purpose → Bool
may_give purposes purpose.Create = purposes.create
may_give purposes purpose.Generate = purposes.generate
may_give purposes purpose.Copy = purposes.copy
may_give purposes purpose.Set = purposes.set

-- what becomes of an attribute that a template doesn't give: the template is refused, the value is
-- these bytes, or the token computes it from how the object came to be. Data objects aren't
-- generated.
pub data Default : Type 0 where
  required : Default
  preset : List ℕ → Default
  computed : Default

-- an attribute of a class: the templates that may give it, and its value in a created and in a
-- generated object where they don't
pub record Column : Type 0 where
  pub purposes : Purposes
  pub created : Default
  pub generated : Default

pub record Row : Type 0 where
  pub number : ℕ
  pub form : Form
  pub for_data : Option Column
  pub for_keys : Option Column

-- C, G, P and S are the templates that create, generate, copy and set
abbrev CGPS : Purposes
CGPS = record { create = true; generate = true; copy = true; set = true }

abbrev CGP : Purposes
CGP = record { create = true; generate = true; copy = true; set = false }

abbrev CPS : Purposes
CPS = record { create = true; generate = false; copy = true; set = true }

abbrev CG : Purposes
CG = record { create = true; generate = true; copy = false; set = false }

abbrev C : Purposes
C = record { create = true; generate = false; copy = false; set = false }

abbrev G : Purposes
G = record { create = false; generate = true; copy = false; set = false }

abbrev nowhere : Purposes
nowhere = record { create = false; generate = false; copy = false; set = false }

abbrev column : Purposes → Default → Default → Option Column
column purposes created generated =
    Some (record { purposes = purposes; created = created; generated = generated })

abbrev off : Default
off = preset (flag_bytes false)

abbrev on : Default
on = preset (flag_bytes true)

abbrev empty : Default
empty = preset []

abbrev row : ℕ → Form → Option Column → Option Column → Row
row number form for_data for_keys =
    record { number = number; form = form; for_data = for_data; for_keys = for_keys }

-- each line: type, form, for data objects, for secret keys
abbrev pub table : Attribute → Row
table attribute.Class =
    row 0x0 form.Class (column CG required required) (column CG required (preset (number_bytes 4)))
table attribute.Token = row 0x1 form.Flag (column CGP off off) (column CGP off off)
table attribute.Private = row 0x2 form.Flag (column CGP off off) (column CGP on on)
table attribute.Label = row 0x3 form.Bytes (column CGPS empty empty) (column CGPS empty empty)
table attribute.Application = row 0x10 form.Bytes (column CPS empty empty) None
table attribute.Value = row 0x11 form.Bytes (column CPS empty empty) (column C required computed)
table attribute.ObjectId = row 0x12 form.Bytes (column CPS empty empty) None
table attribute.KeyType =
    row 0x100 form.KeyType None (column CG required (preset (number_bytes 16)))
table attribute.Id = row 0x102 form.Bytes None (column CGPS empty empty)
table attribute.Sensitive = row 0x103 form.Flag None (column CGPS off off)
table attribute.Encrypt = row 0x104 form.Flag None (column CGPS off off)
table attribute.Decrypt = row 0x105 form.Flag None (column CGPS off off)
table attribute.Wrap = row 0x106 form.Flag None (column CGPS off off)
table attribute.Unwrap = row 0x107 form.Flag None (column CGPS off off)
table attribute.Sign = row 0x108 form.Flag None (column CGPS on on)
table attribute.Verify = row 0x10a form.Flag None (column CGPS on on)
table attribute.Derive = row 0x10c form.Flag None (column CGPS off off)
table attribute.ValueLen = row 0x161 form.Number None (column G computed required)
table attribute.Extractable = row 0x162 form.Flag None (column CGPS on on)
table attribute.Local = row 0x163 form.Flag None (column nowhere off on)
table attribute.NeverExtractable = row 0x164 form.Flag None (column nowhere off computed)
table attribute.AlwaysSensitive = row 0x165 form.Flag None (column nowhere off computed)
table attribute.KeyGenMechanism =
    row 0x166 form.Number None
    (column nowhere (preset (replicate 8 255)) (preset (number_bytes 0x350)))
table attribute.Modifiable = row 0x170 form.Flag (column CGP on on) (column CGP on on)
table attribute.Copyable = row 0x171 form.Flag (column CGP on on) (column CGP on on)
table attribute.Destroyable = row 0x172 form.Flag (column CGP on on) (column CGP on on)
table attribute.KeyState =
    row 0x80000001 form.KeyState None
    (column CG (preset (number_bytes 1)) (preset (number_bytes 1)))

-- all attributes, by ascending type
abbrev pub attributes : List Attribute
attributes =
    attribute.Class ∷ attribute.Token ∷ attribute.Private ∷ attribute.Label ∷ attribute.Application
    ∷ attribute.Value ∷ attribute.ObjectId ∷ attribute.KeyType ∷ attribute.Id ∷ attribute.Sensitive
    ∷ attribute.Encrypt ∷ attribute.Decrypt ∷ attribute.Wrap ∷ attribute.Unwrap ∷ attribute.Sign
    ∷ attribute.Verify ∷ attribute.Derive ∷ attribute.ValueLen ∷ attribute.Extractable
    ∷ attribute.Local ∷ attribute.NeverExtractable ∷ attribute.AlwaysSensitive
    ∷ attribute.KeyGenMechanism ∷ attribute.Modifiable ∷ attribute.Copyable ∷ attribute.Destroyable
    ∷ attribute.KeyState ∷ []

abbrev pub type_of : Attribute → ℕ
type_of a = (table a).number

abbrev pub form_of : Attribute → Form
form_of a = (table a).form

-- what the table says of an attribute for a class, or None where objects of the class don't have it
abbrev pub column_of : Class → Attribute → Option Column
column_of class.Data a = (table a).for_data
column_of class.SecretKey a = (table a).for_keys

-- where objects of the class have the attribute: whether a template of this purpose may give it
abbrev pub permission : Class → Purpose → Attribute → Option Bool
permission c p a = option_map (λ (entry : Column). may_give entry.purposes p) (column_of c a)

-- the attribute that has this type
abbrev pub attribute_of : ℕ → Option Attribute
attribute_of kind = find (λ a. type_of a == kind) attributes
