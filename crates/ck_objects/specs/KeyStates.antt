-- The states of a key (NIST SP 800-57 Part 1 Revision 5, Key states and transitions). The numbers
-- and the table of transitions are this token's.
use Rattle.std.specs.Prelude.{ℕ, Bool, true, false, List, [], ◌∷◌, Option, ◌==◌, find}
use Rattle.std.specs.List.{list_any}
use Rattle.ck_objects.specs.declared.key_states.KeyState.{KeyState}
use Rattle.ck_objects.specs.declared.key_states.KeyState.TheVariants as state

abbrev pub state_number : KeyState → ℕ
state_number state.PreActivation = 0
state_number state.Active = 1
state_number state.Deactivated = 2
state_number state.Compromised = 3
state_number state.Destroyed = 4
state_number state.Suspended = 5

abbrev pub key_states : List KeyState
key_states =
    state.PreActivation ∷ state.Active ∷ state.Deactivated ∷ state.Compromised ∷ state.Destroyed
    ∷ state.Suspended ∷ []

-- the state that has this number
abbrev pub state_of_number : ℕ → Option KeyState
state_of_number number = find (λ s. state_number s == number) key_states

abbrev pub same_state : KeyState → KeyState → Bool
same_state a b = state_number a == state_number b

-- the states that a key in this state may be taken to
abbrev pub next_states : KeyState → List KeyState
next_states state.PreActivation = state.Active ∷ state.Compromised ∷ state.Destroyed ∷ []
next_states state.Active =
    state.Suspended ∷ state.Deactivated ∷ state.Compromised ∷ state.Destroyed ∷ []
next_states state.Suspended =
    state.Active ∷ state.Deactivated ∷ state.Compromised ∷ state.Destroyed ∷ []
next_states state.Deactivated = state.Compromised ∷ state.Destroyed ∷ []
next_states state.Compromised = state.Destroyed ∷ []
next_states state.Destroyed = []

abbrev pub may_become : KeyState → KeyState → Bool
may_become before after = list_any (same_state after) (next_states before)

-- a signature is made only with an active key
abbrev pub may_sign : KeyState → Bool
may_sign state.Active = true
may_sign other = false

-- and checked also with one that is suspended or deactivated
abbrev pub may_verify : KeyState → Bool
may_verify state.Active = true
may_verify state.Suspended = true
may_verify state.Deactivated = true
may_verify other = false

abbrev pub is_destroyed : KeyState → Bool
is_destroyed state.Destroyed = true
is_destroyed other = false
