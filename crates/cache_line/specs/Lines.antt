-- What a line of the cache is, as JSON.
use Rattle.std.specs.Prelude.{◌≡◌, ℕ, List, [], ◌∷◌, Bool, not, nat_eq, Option, Some, None, option_and_then, option_map, map, codes, if◌then◌else◌}
use Rattle.std.specs.List.{list_all}
use Rattle.std.specs.Str.{bytes_eq, IsUtf8}
use Rattle.serde_json.specs.Data.{Data, number, unsigned, string, array, object, Items, no_items, item, Members, no_members, member}
use Rattle.serde_json.specs.Read.{read}
use Rattle.serde_json.specs.Find.{as_u64, as_number, as_array, as_str, as_object}
use Rattle.serde_json.specs.View.{items_of}
use Rattle.serde_json.specs.Written.{compact_text}
use Rattle.cache_line.specs.declared.line.Line.{Line}

-- an array of whole numbers below 2^64
abbrev pub numbers_of : Items → Option (List ℕ)
numbers_of no_items = Some []
numbers_of (item d ds) = option_and_then (λ n. option_map (λ ns. n ∷ ns) (numbers_of ds)) (option_and_then as_u64 (as_number d))

abbrev pub list_of : Data → Option (List ℕ)
list_of d = option_and_then numbers_of (as_array d)

-- exactly the keys k, o and p, in the order in which an object has them
abbrev pub parts_of : Members → Option (Data × Data × Data)
parts_of (member a x (member b y (member c z no_members))) =
    if bytes_eq a (codes "k") then if bytes_eq b (codes "o") then if bytes_eq c (codes "p") then Some (x, y, z) else None else None else None
parts_of _ = None

-- the parts of a JSON object
abbrev pub line_of : Data → Option Line
line_of d =
    option_and_then
    (λ t. option_and_then (λ k. option_and_then (λ o. option_map (λ p. record { key = k; obligation = o; proof = p }) (list_of t.2)) (list_of t.1)) (as_str t.0))
    (option_and_then parts_of (as_object d))

-- the bytes are the text of a JSON object with these parts
pub record IsLine (bytes : List ℕ) (l : Line) : Type 0 where
  pub utf8 : IsUtf8 bytes
  pub parts : option_and_then line_of (read bytes) ≡ Some l

-- the items of a list of numbers
abbrev pub items_for : List ℕ → Items
items_for ns = items_of (map (λ n. number (unsigned n)) ns)

-- the JSON object of a line
abbrev pub data_for : Line → Data
data_for l =
    object (member (codes "k") (string l.key) (member (codes "o") (array (items_for l.obligation)) (member (codes "p") (array (items_for l.proof)) no_members)))

-- a line as it is written
unfoldable pub line_text : Line → List ℕ
line_text l = compact_text (data_for l)

-- no line feed is among the bytes
abbrev pub is_one_line : List ℕ → Bool
is_one_line = list_all (λ b. not (nat_eq b 10))
