-- The ASCII characters that texts give a meaning to, as bytes.
use Rattle.std.specs.Prelude.{ℕ}

abbrev pub tab : ℕ
tab = 0x09

abbrev pub line_feed : ℕ
line_feed = 0x0A

abbrev pub carriage_return : ℕ
carriage_return = 0x0D

abbrev pub space : ℕ
space = 0x20

abbrev pub exclamation : ℕ
exclamation = 0x21

abbrev pub double_quote : ℕ
double_quote = 0x22

abbrev pub number_sign : ℕ
number_sign = 0x23

abbrev pub dollar : ℕ
dollar = 0x24

abbrev pub percent : ℕ
percent = 0x25

abbrev pub ampersand : ℕ
ampersand = 0x26

abbrev pub apostrophe : ℕ
apostrophe = 0x27

abbrev pub opening_round : ℕ
opening_round = 0x28

abbrev pub closing_round : ℕ
closing_round = 0x29

abbrev pub star : ℕ
star = 0x2A

abbrev pub plus : ℕ
plus = 0x2B

abbrev pub comma : ℕ
comma = 0x2C

abbrev pub minus : ℕ
minus = 0x2D

abbrev pub dot : ℕ
dot = 0x2E

abbrev pub digit_0 : ℕ
digit_0 = 0x30

abbrev pub digit_1 : ℕ
digit_1 = 0x31

abbrev pub digit_4 : ℕ
digit_4 = 0x34

abbrev pub digit_9 : ℕ
digit_9 = 0x39

abbrev pub colon : ℕ
colon = 0x3A

abbrev pub semicolon : ℕ
semicolon = 0x3B

abbrev pub less : ℕ
less = 0x3C

abbrev pub equals : ℕ
equals = 0x3D

abbrev pub greater : ℕ
greater = 0x3E

abbrev pub at_sign : ℕ
at_sign = 0x40

abbrev pub capital_a : ℕ
capital_a = 0x41

abbrev pub capital_b : ℕ
capital_b = 0x42

abbrev pub capital_c : ℕ
capital_c = 0x43

abbrev pub capital_f : ℕ
capital_f = 0x46

abbrev pub capital_h : ℕ
capital_h = 0x48

abbrev pub capital_i : ℕ
capital_i = 0x49

abbrev pub capital_l : ℕ
capital_l = 0x4C

abbrev pub capital_r : ℕ
capital_r = 0x52

abbrev pub capital_s : ℕ
capital_s = 0x53

abbrev pub capital_x : ℕ
capital_x = 0x58

abbrev pub capital_y : ℕ
capital_y = 0x59

abbrev pub capital_z : ℕ
capital_z = 0x5A

abbrev pub opening_square : ℕ
opening_square = 0x5B

abbrev pub closing_square : ℕ
closing_square = 0x5D

abbrev pub caret : ℕ
caret = 0x5E

abbrev pub underscore : ℕ
underscore = 0x5F

abbrev pub small_a : ℕ
small_a = 0x61

abbrev pub small_z : ℕ
small_z = 0x7A

abbrev pub bar : ℕ
bar = 0x7C

abbrev pub tilde : ℕ
tilde = 0x7E
