-- Arguments and lines, worked out.
use Rattle.faxrows_lib.proofs.Names.{◌≡◌, refl, [], ◌∷◌, true, false, Some, None, Ok, Err, codes, InvalidCode, Group4, Group3_1D}
use Rattle.fax_program.specs.Arguments.{are_flags}
use Rattle.faxrows_lib.proofs.Names.{Group3_2D, HighestFirst, LowestFirst, arguments_of, text_of}
use Rattle.std.specs.Fmt.{digits}

-- leading zeros are allowed, and `-` is no flag
plain_args : arguments_of (codes "g4" ∷ codes "0000000008" ∷ codes "1" ∷ codes "-" ∷ []) ≡ Some (record {
  settings = record {
    columns = 8;
    rows = 1;
    end_of_block = false;
    end_of_line = false;
    rows_are_byte_aligned = false;
    encoding = Group4;
    strict = false;
  };
  order = HighestFirst;
})
unfolding are_flags
plain_args = refl

-- the greatest number, and flags in any order
flags : arguments_of (codes "g4" ∷ codes "4294967295" ∷ codes "0" ∷ codes "sab" ∷ []) ≡ Some (record {
  settings = record {
    columns = 4294967295;
    rows = 0;
    end_of_block = true;
    end_of_line = false;
    rows_are_byte_aligned = true;
    encoding = Group4;
    strict = true;
  };
  order = HighestFirst;
})
unfolding are_flags
flags = refl

-- a mode of Group 3
one_dimension : arguments_of (codes "1d" ∷ codes "8" ∷ codes "0" ∷ codes "l" ∷ []) ≡ Some (record {
  settings = record {
    columns = 8;
    rows = 0;
    end_of_block = false;
    end_of_line = true;
    rows_are_byte_aligned = false;
    encoding = Group3_1D;
    strict = false;
  };
  order = HighestFirst;
})
unfolding are_flags
one_dimension = refl

two_dimensions : arguments_of (codes "2d" ∷ codes "8" ∷ codes "1" ∷ codes "sal" ∷ []) ≡ Some (record {
  settings = record {
    columns = 8;
    rows = 1;
    end_of_block = false;
    end_of_line = true;
    rows_are_byte_aligned = true;
    encoding = Group3_2D;
    strict = true;
  };
  order = HighestFirst;
})
unfolding are_flags
two_dimensions = refl

-- r selects the lowest bit of each byte first, and is no setting
lowest_first : arguments_of (codes "g4" ∷ codes "8" ∷ codes "1" ∷ codes "br" ∷ []) ≡ Some (record {
  settings = record {
    columns = 8;
    rows = 1;
    end_of_block = true;
    end_of_line = false;
    rows_are_byte_aligned = false;
    encoding = Group4;
    strict = false;
  };
  order = LowestFirst;
})
unfolding are_flags
lowest_first = refl

-- a number too large, a number too long, a letter twice, r twice, no flag, another mode, an argument too many
too_large : arguments_of (codes "g4" ∷ codes "4294967296" ∷ codes "1" ∷ codes "-" ∷ []) ≡ None
too_large = refl

too_long : arguments_of (codes "g4" ∷ codes "00000000008" ∷ codes "1" ∷ codes "-" ∷ []) ≡ None
too_long = refl

letter_twice : arguments_of (codes "g4" ∷ codes "8" ∷ codes "1" ∷ codes "bsb" ∷ []) ≡ None
unfolding are_flags
letter_twice = refl

order_twice : arguments_of (codes "g4" ∷ codes "8" ∷ codes "1" ∷ codes "rr" ∷ []) ≡ None
unfolding are_flags
order_twice = refl

no_flag : arguments_of (codes "g4" ∷ codes "8" ∷ codes "1" ∷ codes "" ∷ []) ≡ None
unfolding are_flags
no_flag = refl

another_mode : arguments_of (codes "3d" ∷ codes "8" ∷ codes "1" ∷ codes "-" ∷ []) ≡ None
another_mode = refl

an_arg_too_many : arguments_of (codes "g4" ∷ codes "8" ∷ codes "1" ∷ codes "-" ∷ codes "-" ∷ []) ≡ None
an_arg_too_many = refl

-- two rows, one of them white, and a good result
good_text : text_of ((3 ∷ 15 ∷ []) ∷ [] ∷ []) (Ok 120) ≡ codes "r 3 15\nr\nok 120\n"
unfolding digits
good_text = refl

-- no row, and a fault
faulty_text : text_of [] (Err InvalidCode) ≡ codes "error: invalid CCITT code sequence\n"
faulty_text = refl
