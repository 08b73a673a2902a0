-- What is left of a room for things that are counted.
use Rattle.std.specs.Prelude.{ℕ, ◌-◌, nat_le, if◌then◌else◌, Option, None, Some}

-- room for as many more, or nothing where there are too many already
abbrev pub room_behind : ℕ → ℕ → Option ℕ
room_behind count room = if nat_le count room then Some (room - count) else None

-- room for as many more behind others, if there was room for those
abbrev pub after : ℕ → Option ℕ → Option ℕ
after count None = None
after count (Some room) = room_behind count room
