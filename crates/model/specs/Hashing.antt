-- Hashes of values and of cells, by which a search asks before it compares.
--     hash_of      the hash of values: of their texts and numbers
--     hash_cell      the hash of a cell
use Rattle.std.specs.Prelude.{ℕ, ℤ, unsigned_abs, ◌+◌, ◌*◌, ◌%◌, ◌^◌, List, [], ◌∷◌}
use Rattle.model.specs.declared.value.Value.{Value}
use Rattle.model.specs.declared.value.Value.TheVariants.{Int, Text, Bool}
use Rattle.model.specs.declared.key.Key.{Key}
use Rattle.model.specs.declared.cell.Cell.{Cell}
use Rattle.model.specs.declared.cell.Cell.TheVariants.{Row, Uniq, Whole}

-- the hash with a number more: times the prime of the FNV hashes, plus the number, in 64 bits
abbrev pub hash_natural : ℕ → ℕ → ℕ
hash_natural hash n = ((hash * 1099511628211) % 2 ^ 64 + n) % 2 ^ 64

-- the hash with these bytes more
abbrev pub hash_bytes : ℕ → List ℕ → ℕ
hash_bytes hash [] = hash
hash_bytes hash (byte ∷ bytes) = hash_bytes (hash_natural hash byte) bytes

-- Of one number alone that is not negative, it is that number: so the order of hashes is that of the numbers.
abbrev pub hash_number : ℕ → ℤ → ℕ
hash_number hash number = hash_natural hash (unsigned_abs number)

-- the hash with a value more; a bool leaves it as it is
abbrev pub hash_value : ℕ → Value → ℕ
hash_value hash (Int number) = hash_number hash number
hash_value hash (Text text) = hash_bytes hash text
hash_value hash (Bool truth) = hash

-- the hash with these values more
abbrev pub hash_values : ℕ → List Value → ℕ
hash_values hash [] = hash
hash_values hash (value ∷ values) = hash_values (hash_value hash value) values

-- the hash of a key's values, begun at 0
abbrev pub hash_of : Key → ℕ
hash_of values = hash_values 0 values

-- the hash of a cell: of its values, its table and the number of its unique key
abbrev pub hash_cell : Cell → ℕ
hash_cell (Row table key) = hash_natural (hash_of key) table
hash_cell (Uniq table number values) = hash_natural (hash_natural (hash_of values) table) number
hash_cell (Whole table) = hash_natural 0 table
