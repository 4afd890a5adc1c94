-- The numbers by which a program knows the library that it runs with. include/yeqontur.h has the same two as macros; a
-- test compares them. Assumes nothing.
use Rattle.std.specs.Prelude.{ℕ}

-- The version, two digits each for major, minor and patch: 0.2.0.
abbrev pub version : ℕ
version = 200

-- The layout of tables and answers. Whoever changes the size or the place of a field, or what a call takes, gives it the
-- next number.
abbrev pub layout : ℕ
layout = 2
