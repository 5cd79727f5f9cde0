-- The ids of the sample's messages.
use Rattle.std.specs.Prelude.{ℕ, List, [], ◌∷◌, ◌++◌, take, decimal}
use Rattle.sha1.specs.Sha1.{sha1}
use Rattle.uuid.specs.Parts.{with_variant, with_version}
use Rattle.uuid.specs.Text.{hyphenated_text, lower}
use Rattle.uuid.specs.declared.Variant.TheVariants.{RFC4122}
use Rattle.uuid.specs.declared.Version.TheVariants.{Sha1}

-- the namespace of URLs: 6ba7b811-9dad-11d1-80b4-00c04fd430c8
abbrev pub url_namespace : List ℕ
url_namespace = 0x6b ∷ 0xa7 ∷ 0xb8 ∷ 0x11 ∷ 0x9d ∷ 0xad ∷ 0x11 ∷ 0xd1 ∷ 0x80 ∷ 0xb4 ∷ 0x00 ∷ 0xc0 ∷ 0x4f ∷ 0xd4 ∷ 0x30 ∷ 0xc8 ∷ []

-- the version 5 UUID of a name in that namespace
abbrev pub uuid_of : List ℕ → List ℕ
uuid_of name = with_version (with_variant (take 16 (sha1 (url_namespace ++ name))) RFC4122) Sha1

-- the name of a message: the seed and its number, parted by a slash
abbrev pub name_of : ℕ → ℕ → List ℕ
name_of seed i = decimal seed ++ 47 ∷ decimal i

-- the id of a message: the UUID of its name, in lower case with hyphens
abbrev pub sample_id : ℕ → ℕ → List ℕ
sample_id seed i = hyphenated_text lower (uuid_of (name_of seed i))
