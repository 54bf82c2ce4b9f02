-- The text of a reply: its code, what its body has, and the line's end
use Rattle.std.specs.Prelude.{ℕ, false, List, [], ◌∷◌, ◌++◌, map, codes, decimal}
use Rattle.std.specs.Fmt.{digits}
use Rattle.std.specs.List.{join_with_byte}
use Rattle.hex.specs.Hex.{encode_lower}
use Rattle.ck_types.specs.ReturnCodes.{number_of}
use Rattle.ck_types.specs.Users.{session_state_number}
use Rattle.ck_journal.specs.declared.replies.Answer.{Answer}
use Rattle.ck_journal.specs.declared.replies.Answer.TheVariants as answer
use Rattle.ck_journal.specs.declared.replies.Body.{Body}
use Rattle.ck_journal.specs.declared.replies.Body.TheVariants as body
use Rattle.ck_journal.specs.declared.replies.Reply.{Reply}
use Rattle.ck_script.specs.Arguments.{comma}
use Rattle.ck_script.specs.Lines.{line_end}
use Rattle.ck_script.specs.declared.replies.Base.{Base}
use Rattle.ck_script.specs.declared.replies.Base.TheVariants as base

-- the number that a base of the code is; no text is defined by it
abbrev pub base_number : Base → ℕ
base_number base.Decimal = 10
base_number base.Hexadecimal = 16

-- a number in hexadecimal, in lower case
abbrev pub hexadecimal : ℕ → List ℕ
hexadecimal n = digits 16 false n

-- bytes in hexadecimal, in lower case, and `-` for none
abbrev pub bytes_text : List ℕ → List ℕ
bytes_text [] = codes "-"
bytes_text (b ∷ bytes) = encode_lower (b ∷ bytes)

abbrev pub answer_text : Answer → List ℕ
answer_text (answer.Value bytes) = codes "=" ++ bytes_text bytes
answer_text (answer.Length length) = codes ":" ++ decimal length
answer_text answer.Unavailable = codes "!"

-- answers, joined by commas, and `-` for none
abbrev pub answers_text : List Answer → List ℕ
answers_text [] = codes "-"
answers_text (a ∷ answers) = join_with_byte comma (map answer_text (a ∷ answers))

-- numbers in a base, joined by commas, and `-` for none
abbrev pub numbers_text : ℕ → List ℕ → List ℕ
numbers_text base [] = codes "-"
numbers_text base (n ∷ numbers) = join_with_byte comma (map (digits base false) (n ∷ numbers))

-- what stands after the code
abbrev pub body_text : Body → List ℕ
body_text body.Empty = []
body_text (body.Handle handle) = codes " " ++ decimal handle
body_text (body.Session state flags) =
    codes " " ++ decimal (session_state_number state) ++ codes " " ++ hexadecimal flags
body_text (body.Token flags limit sessions rw_sessions) =
    codes " " ++ hexadecimal flags.0 ++ codes " " ++ decimal limit
    ++ codes " " ++ decimal sessions ++ codes " " ++ decimal rw_sessions
body_text (body.Mechanisms types) = codes " " ++ numbers_text 16 types
body_text (body.Attributes answers) = codes " " ++ answers_text answers
body_text (body.Handles handles) = codes " " ++ numbers_text 10 handles
body_text (body.Length length) = codes " :" ++ decimal length
body_text (body.Bytes bytes) = codes " " ++ bytes_text bytes

-- the text without the line's end
abbrev pub reply_line : Reply → List ℕ
reply_line reply = hexadecimal (number_of reply.rv) ++ body_text reply.body

abbrev pub reply_text : Reply → List ℕ
reply_text reply = reply_line reply ++ line_end ∷ []
