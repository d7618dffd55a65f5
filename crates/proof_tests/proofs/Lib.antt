mod Checked
