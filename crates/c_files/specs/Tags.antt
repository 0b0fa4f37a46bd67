-- Entity tags of files that the host opens.
use Rattle.std.specs.Prelude.{ℕ, ◌-◌, nat_lt, Bool, if◌then◌else◌, List, [], ◌++◌, Option, Some, None}
use Rattle.{std.specs.Int.{to_be_bytes, w64}, http_header.specs.FieldValue.{FieldValue, plain_value}}
use Rattle.{c_parts.specs.declared.keys.HashKeys.HashKeys, server_files.specs.Tags.{content_digest, strong_tag}}
use Rattle.c_files.specs.declared.entry.Facts.{Facts}

-- It changed more than two seconds ago, so that its next change has another time.
abbrev pub is_unchanged : ℕ → Facts → Bool
is_unchanged now facts = nat_lt 2 (now - facts.changed)

-- The keys, which file it is, its length, and when it last changed: seven numbers of eight bytes.
unfoldable pub stamp_of : HashKeys → Facts → List ℕ
stamp_of keys facts =
    ((((((([] ++ to_be_bytes w64 keys.first) ++ to_be_bytes w64 keys.second) ++ to_be_bytes w64 facts.device)
    ++ to_be_bytes w64 facts.inode) ++ to_be_bytes w64 facts.length) ++ to_be_bytes w64 facts.changed)
    ++ to_be_bytes w64 facts.changed_nanosecond)

-- the digest of that, if it is settled
abbrev pub tag_of : HashKeys → ℕ → Facts → Option FieldValue
tag_of keys now facts =
    if is_unchanged now facts then Some (plain_value (strong_tag (content_digest (stamp_of keys facts)))) else None
