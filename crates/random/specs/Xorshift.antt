-- How one number of 64 bits follows another: xorshift with the shifts 13, 7 and 17.
use Rattle.std.specs.Prelude.{ℕ, ◌*◌, ◌/◌, ◌%◌, ◌^◌, bit_xor}

-- the digits of a word, each added without carry to the one k places lower
abbrev pub shifted_up : ℕ → ℕ → ℕ
shifted_up k word = bit_xor word (word * 2 ^ k % 2 ^ 64)

-- the same with the one k places higher
abbrev pub shifted_down : ℕ → ℕ → ℕ
shifted_down k word = bit_xor word (word / 2 ^ k)

abbrev pub next_word : ℕ → ℕ
next_word word = shifted_up 17 (shifted_down 7 (shifted_up 13 word))
