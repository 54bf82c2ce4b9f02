-- What is known of a history after one more entry
use Rattle.std.proofs.Common.{◌≡◌, ℕ, ◌+◌, ◌-◌, ◌<◌, ◌≤◌, ◌^◌, List, [], ◌∷◌, slice_index}
use Rattle.std.proofs.Common.{slice_set}
use Rattle.std.proofs.Common.{Bool, true, false, if◌then◌else◌, refl, sym, ap, ◌∙◌, arith}
use Rattle.ck_types.specs.TokenLimits.{Ranges}
use Rattle.ck_journal.specs.Boards.{BoardStays, board_of}
use Rattle.ck_journal.specs.Callers.{call_counts}
use Rattle.ck_journal.specs.Fronts.{IsFront}
use Rattle.ck_journal.specs.Histories.{History, ◌◁◌, entry_count, followed_by}
use Rattle.ck_journal.specs.declared.calls.Entry.{Entry}
use Rattle.ck_journal.proofs.CallerLemmas.{call_count-within, call_counts-at, call_counts-next}
use Rattle.ck_journal.proofs.FrontLemmas.{front_refl, front_trans}
use Rattle.ck_callers.specs.KnownHistories.{KeepsBoard, HasNext}

-- ---- fronts

pub longer_later : (g : History) (later : List Entry) → entry_count g
    ≤ entry_count (followed_by g later)
longer_later g [] = omega arith
longer_later g (e ∷ later) = let below = longer_later g later in omega arith

pub longer_front : (g h : History) → IsFront g h → entry_count g ≤ entry_count h
longer_front g h f = let longer = longer_later g f.0 in omega (arith, ap entry_count f.1)

same_later : (g h : History) (later : List Entry) → h ≡ followed_by g later
    → entry_count h ≤ entry_count g → g ≡ h
same_later g h [] is short = sym is
same_later g h (e ∷ later) is short =
    let longer = longer_later g later in absurd (omega (arith, ap entry_count is))

-- of two histories, each of which is a front of the other
front_same : (g h : History) → IsFront g h → IsFront h g → g ≡ h
front_same g h f back = same_later g h f.0 f.1 (longer_front h g back)

-- ---- since when the board is the same

-- at an entry that may change it
pub keeps_itself : (limits : Ranges) (h : History) → KeepsBoard limits h h
keeps_itself limits h g f back = ap (board_of limits) (sym (front_same h g f back))

keeps_later : (limits : Ranges) (changed before g : History) (e : Entry)
    → KeepsBoard limits changed before
    → BoardStays e.call → IsFront changed g → (later : List Entry)
    → e ◁ before ≡ followed_by g later
    → board_of limits g ≡ board_of limits (e ◁ before)
keeps_later limits changed before g e keeps leaves f [] is = ap (board_of limits) (sym is)
keeps_later limits changed before g e keeps leaves f (x ∷ later) is =
    let rest : before ≡ followed_by g later = cc is in keeps g f (later, rest)
    ∙ sym (leaves limits before e refl)

module _ (number : ℕ) (leaves : Bool) (before h : History) (next : HasNext number leaves before h)
  where
    front-next : IsFront before h
    front-next = (next.entry ∷ [], next.next)

    pub front-further : (g : History) → IsFront g before → IsFront g h
    front-further g f = front_trans g before h f front-next

    -- at an entry that leaves it
    pub keeps_next : (limits : Ranges) (changed : History) → BoardStays next.entry.call
        → KeepsBoard limits changed before
        → KeepsBoard limits changed h
    keeps_next limits changed same keeps g f later =
        keeps_later limits changed before g next.entry keeps same f later.0
        (sym next.next ∙ later.1)
        ∙ ap (board_of limits) (sym next.next)

    -- the counts of calls

    pub next_count-fits : slice_index (call_counts before) (number - 1) + 1 < 2 ^ 64
    next_count-fits =
        let at = call_counts-at number before next.range.0 next.range.1 in
        omega (arith, at, call_count-within number before, next.room, ap entry_count next.next)

    pub next_counts : slice_set (call_counts before) (number - 1)
        (slice_index (call_counts before) (number - 1) + 1)
        ≡ call_counts h
    next_counts =
        ap (λ n. slice_set (call_counts before) (number - 1) (n + 1))
        (call_counts-at number before next.range.0 next.range.1)
        ∙ sym (call_counts-next number next.entry before next.caller next.range.0 next.range.1)
        ∙ ap call_counts (sym next.next)

-- since when the board is the same, whether the entry leaves it or may change it
pub followed : (limits : Ranges) (number : ℕ) (leaves : Bool) (before changed h : History)
    → HasNext number leaves before h → IsFront changed before → KeepsBoard limits changed before
    → IsFront (if leaves then changed else h) h × KeepsBoard limits (if leaves then changed else h)
    h
followed limits number true before changed h next f keeps = (
  front-further number true before h next changed f,
  keeps_next number true before h next limits changed (next.same_board refl) keeps,
)
followed limits number false before changed h next f keeps = (front_refl h, keeps_itself limits h)
