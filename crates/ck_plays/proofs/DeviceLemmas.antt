-- What a device has left, after one more read
use Rattle.std.proofs.Common.{◌≡◌, ◌<◌, ℕ, zero, suc, Bool, true, false, List, [], ◌∷◌, ◌++◌}
use Rattle.std.proofs.Common.{Option, Some, None, Ok, Err, length, take, refl, sym, ap, ◌∙◌, subst}
use Rattle.std.proofs.Common.{append_assoc, arith}
use Rattle.std.proofs.lemmas.Bool.Decides.{nat_tests}
use Rattle.std.specs.Prelude.{◌==◌, ◌&&◌, not, Result, if◌then◌else◌}
use Rattle.std.specs.Io.KnownBytes.{Consumes, IsAtEnd, Keeps, ReadConsumes}
use Rattle.ck_plays.specs.Devices.{Reading, IsRest, IsLeft, is_end, after_read, end_read, read_on}

append-none : (front more : List ℕ) → front ++ more ≡ [] → more ≡ []
append-none [] more e = e
append-none (x ∷ front) more e = cc

left-more : (ends : ℕ) (rest piece more : List ℕ) → rest ≡ piece ++ more → IsLeft ends rest
    → IsLeft ends more
left-more zero rest piece more e left = tt
left-more (suc ends) rest piece more e left = append-none piece more (sym e ∙ left)

rest-Keeps : (script : Option (List ℕ)) (bytes : List ℕ) (ends : ℕ) (old new : Option (List ℕ))
    → Keeps old new → IsRest script bytes ends old → IsRest script bytes ends new
rest-Keeps None bytes ends old new keeps rest = tt
rest-Keeps (Some script) bytes ends None new keeps rest = absurd rest
rest-Keeps (Some script) bytes ends (Some xs) None keeps rest = absurd keeps
rest-Keeps (Some script) bytes ends (Some xs) (Some ys) keeps rest =
    subst (λ (zs : List ℕ). (script ≡ bytes ++ zs) × IsLeft ends zs) (sym keeps) rest

rest-Consumes : (script : Option (List ℕ)) (bytes piece : List ℕ) (ends : ℕ)
    (old new : Option (List ℕ))
    → Consumes old new piece → IsRest script bytes ends old
    → IsRest script (bytes ++ piece) ends new
rest-Consumes None bytes piece ends old new more rest = tt
rest-Consumes (Some script) bytes piece ends None new more rest = absurd rest
rest-Consumes (Some script) bytes piece ends (Some xs) None more rest = absurd more
rest-Consumes (Some script) bytes piece ends (Some xs) (Some ys) more rest = (
  rest.0 ∙ ap (λ (zs : List ℕ). bytes ++ zs) more ∙ sym (append_assoc bytes piece ys),
  left-more ends xs piece ys more rest.1,
)

rest-ended : (script : Option (List ℕ)) (bytes : List ℕ) (ends : ℕ) (old new : Option (List ℕ))
    → Consumes old new [] → IsAtEnd new → IsRest script bytes ends old
    → IsRest script bytes (suc ends) new
rest-ended None bytes ends old new more end rest = tt
rest-ended (Some script) bytes ends None new more end rest = absurd rest
rest-ended (Some script) bytes ends (Some xs) None more end rest = absurd more
rest-ended (Some script) bytes ends (Some xs) (Some ys) more end rest =
    (rest.0 ∙ ap (λ (zs : List ℕ). bytes ++ zs) more, end)

end-none : (count n : ℕ) → (count == 0 && not (n == 0)) ≡ true → count ≡ 0
end-none count n e = grind (arith, nat_tests)

end-room : (count n : ℕ) → (count == 0 && not (n == 0)) ≡ true → 0 < n
end-room count n e = grind (arith, nat_tests)

rest-step : (ended : Bool) (r : Reading) (count : ℕ) (buffer : List ℕ)
    (old new : Option (List ℕ))
    → is_end count buffer ≡ ended → Consumes old new (take count buffer)
    → (count ≡ 0 → 0 < length buffer → IsAtEnd new) → IsRest r.script r.bytes r.ends old
    → (let s : Reading = if ended then end_read r else read_on r (take count buffer) in
    IsRest s.script s.bytes s.ends new)
rest-step true r count buffer old new is more end rest =
    let none = end-none count (length buffer) is in
    rest-ended r.script r.bytes r.ends old new
    (subst (λ (n : ℕ). Consumes old new (take n buffer)) none more)
    (end none (end-room count (length buffer) is)) rest
rest-step false r count buffer old new is more end rest =
    rest-Consumes r.script r.bytes (take count buffer) r.ends old new more rest

pub rest-after : {E : Type 0} (old new : Option (List ℕ)) (r : Reading) (read : Result ℕ E)
    (buffer : List ℕ)
    → ReadConsumes old new read buffer → IsRest r.script r.bytes r.ends old
    → (let s : Reading = after_read r read buffer in IsRest s.script s.bytes s.ends new)
rest-after old new r (Ok count) buffer consumes rest =
    rest-step (is_end count buffer) r count buffer old new refl consumes.0 consumes.1 rest
rest-after old new r (Err e) buffer consumes rest =
    rest-Keeps r.script r.bytes r.ends old new consumes rest
