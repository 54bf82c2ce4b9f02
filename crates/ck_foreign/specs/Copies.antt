-- What a copy into given room leaves there
use Rattle.std.specs.Prelude.{List, ◌++◌, drop, length, take}

-- the items, or as many of them as there is room for, and behind them what was there before
abbrev pub filled_with : {T : Type 0} → List T → List T → List T
filled_with items room = take (length room) items ++ drop (length items) room
