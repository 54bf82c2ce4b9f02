-- What a caller gets by the entries of a journal
use Rattle.std.specs.Prelude.{ℕ, List, [], ◌∷◌, ◌==◌, if◌then◌else◌}
use Rattle.ck_journal.specs.declared.calls.Entry.{Entry}
use Rattle.ck_journal.specs.declared.replies.Reply.{Reply}

-- the replies to a caller's calls, in the order of the entries
abbrev pub replies_to : ℕ → List Entry → List Reply
replies_to caller [] = []
replies_to caller (e ∷ later) =
    if e.caller == caller then e.reply ∷ replies_to caller later else replies_to caller later
