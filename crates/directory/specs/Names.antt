-- Tags by their names.
use Rattle.std.specs.Prelude.{ℕ}

abbrev pub new_subfile_type : ℕ
new_subfile_type = 254

abbrev pub image_width : ℕ
image_width = 256

abbrev pub image_length : ℕ
image_length = 257

abbrev pub bits_per_sample : ℕ
bits_per_sample = 258

abbrev pub compression : ℕ
compression = 259

abbrev pub photometric_interpretation : ℕ
photometric_interpretation = 262

abbrev pub strip_offsets : ℕ
strip_offsets = 273

abbrev pub samples_per_pixel : ℕ
samples_per_pixel = 277

abbrev pub rows_per_strip : ℕ
rows_per_strip = 278

abbrev pub strip_byte_counts : ℕ
strip_byte_counts = 279

abbrev pub planar_configuration : ℕ
planar_configuration = 284

abbrev pub sub_ifds : ℕ
sub_ifds = 330

abbrev pub sample_format : ℕ
sample_format = 339

abbrev pub cfa_repeat_pattern_dim : ℕ
cfa_repeat_pattern_dim = 33421

abbrev pub cfa_pattern : ℕ
cfa_pattern = 33422

abbrev pub dng_version : ℕ
dng_version = 50706

abbrev pub dng_backward_version : ℕ
dng_backward_version = 50707

abbrev pub cfa_plane_color : ℕ
cfa_plane_color = 50710

abbrev pub cfa_layout : ℕ
cfa_layout = 50711

abbrev pub linearization_table : ℕ
linearization_table = 50712

abbrev pub black_level_repeat_dim : ℕ
black_level_repeat_dim = 50713

abbrev pub black_level : ℕ
black_level = 50714

abbrev pub black_level_delta_h : ℕ
black_level_delta_h = 50715

abbrev pub black_level_delta_v : ℕ
black_level_delta_v = 50716

abbrev pub white_level : ℕ
white_level = 50717

abbrev pub default_crop_origin : ℕ
default_crop_origin = 50719

abbrev pub default_crop_size : ℕ
default_crop_size = 50720

abbrev pub camera_calibration1 : ℕ
camera_calibration1 = 50723

abbrev pub analog_balance : ℕ
analog_balance = 50727

abbrev pub as_shot_neutral : ℕ
as_shot_neutral = 50728

abbrev pub active_area : ℕ
active_area = 50829

abbrev pub forward_matrix1 : ℕ
forward_matrix1 = 50964

abbrev pub forward_matrix2 : ℕ
forward_matrix2 = 50965

abbrev pub row_interleave_factor : ℕ
row_interleave_factor = 50975

abbrev pub opcode_list1 : ℕ
opcode_list1 = 51008

abbrev pub opcode_list2 : ℕ
opcode_list2 = 51009

abbrev pub opcode_list3 : ℕ
opcode_list3 = 51022

abbrev pub column_interleave_factor : ℕ
column_interleave_factor = 52547
